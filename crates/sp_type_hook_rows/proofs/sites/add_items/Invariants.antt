use Rattle.std.proofs.Common.{◌≡◌, ◌++◌}
use Rattle.sp_ast.specs.Trees.{trees}
use Rattle.sp_type_hook_rows.specs.Sites.{sites_among}
use Rattle.sp_type_hook_rows.proofs.sites.add_items.Given as goal

abbrev pub invariant-loop-item : goal.invariant-loop-item
invariant-loop-item l =
    (goal.iterator-loop-item).can_next l.item-iterator × (goal.iterator-loop-item).is_finite l.item-iterator
    × (l.sites.items ++ sites_among l.«module» l.unit (trees l.item-iterator) ≡ l.fn.sites.items ++ sites_among l.«module» l.unit (trees l.fn.items))
