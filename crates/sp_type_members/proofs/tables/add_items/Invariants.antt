use Rattle.sp_ast.specs.Trees.{trees}
use Rattle.sp_type_modules.specs.Sources.{declared_among}
use Rattle.sp_type_members.specs.inside.Tables.{LeadsOn}
use Rattle.sp_type_members.proofs.tables.add_items.Given as goal

abbrev pub invariant-loop-item : goal.invariant-loop-item
invariant-loop-item l =
    (goal.iterator-loop-item).can_next l.item-iterator × (goal.iterator-loop-item).is_finite l.item-iterator
    × LeadsOn l.fn.table l.table (declared_among (trees l.item-iterator)) (declared_among (trees l.fn.items))
