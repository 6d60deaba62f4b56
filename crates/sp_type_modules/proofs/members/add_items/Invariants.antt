use Rattle.sp_ast.specs.Trees.{trees}
use Rattle.sp_type_modules.specs.Members.{named_among}
use Rattle.sp_type_modules.specs.inside.Kept.{LeadsOn}
use Rattle.sp_type_modules.proofs.members.add_items.Given as goal

abbrev pub invariant-loop-item : goal.invariant-loop-item
invariant-loop-item l =
    (goal.iterator-loop-item).can_next l.item-iterator × (goal.iterator-loop-item).is_finite l.item-iterator
    × LeadsOn l.fn.table l.table (named_among (trees l.item-iterator)) (named_among (trees l.fn.items))
