use Rattle.std.proofs.Common.{◌≡◌}
use Rattle.sp_ast.specs.Trees.{trees}
use Rattle.sp_unbuilt.specs.Constructs.{last_end}
use Rattle.sp_unbuilt.proofs.fields.last_end.Given as goal

abbrev pub invariant-loop-tree : goal.invariant-loop-tree
invariant-loop-tree g l =
    (goal.iterator-loop-tree g).can_next l.tree-iterator × (goal.iterator-loop-tree g).is_finite l.tree-iterator
    × (last_end l.end (trees l.tree-iterator) ≡ last_end l.place (trees l.row))
