use Rattle.std.proofs.Common.{◌≡◌, ◌++◌}
use Rattle.sp_ast.specs.Trees.{trees}
use Rattle.sp_type_modules.specs.Members.{named_among}
use Rattle.sp_type_units.specs.inside.Shown.{shown}
use Rattle.sp_type_units.proofs.named.add_items.Given as goal

abbrev pub invariant-loop-item : goal.invariant-loop-item
invariant-loop-item l =
    (goal.iterator-loop-item).can_next l.item-iterator × (goal.iterator-loop-item).is_finite l.item-iterator
    × (shown l.all.items ++ named_among (trees l.item-iterator) ≡ shown l.fn.all.items ++ named_among (trees l.fn.items))
