use Rattle.std.proofs.Common.{◌≡◌}
use Rattle.sp_ast.specs.Trees.{trees}
use Rattle.sp_type_units.specs.Items.{has_filter}
use Rattle.sp_type_units.proofs.items.has_filter.Given as goal

abbrev pub invariant-loop-item : goal.invariant-loop-item
invariant-loop-item l =
    (goal.iterator-loop-item).can_next l.item-iterator × (goal.iterator-loop-item).is_finite l.item-iterator
    × (has_filter (trees l.item-iterator) ≡ has_filter (trees l.items))
