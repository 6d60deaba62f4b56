use Rattle.sp_ast.specs.Trees.{trees}
use Rattle.sp_type_member_names.specs.inside.Passing.{LeadsAmong}
use Rattle.sp_type_member_names.proofs.walk.pass_items.Given as goal

abbrev pub invariant-loop-item : goal.invariant-loop-item
invariant-loop-item g l =
    (goal.iterator-loop-item g).can_next l.item-iterator × (goal.iterator-loop-item g).is_finite l.item-iterator
    × LeadsAmong (g.N.Naming.numbers l.naming) (g.N.Naming.types l.naming) l.fn.seen l.seen (trees l.item-iterator) (trees l.fn.items)
