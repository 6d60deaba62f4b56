use Rattle.std.proofs.Common.{◌≡◌, ◌≤◌, ◌++◌, ◌+◌, ◌*◌}
use Rattle.sp_ast.specs.Trees.{tree_size, trees_size, trees}
use Rattle.sp_names.specs.Declarations.{rows_of, inner_among}
use Rattle.sp_names.proofs.inner.+add.Given as goal

abbrev pub decreases-add_inner : goal.decreases-add_inner
decreases-add_inner l = 2 * tree_size l.tree.now + 1

abbrev pub decreases-add_among : goal.decreases-add_among
decreases-add_among l = 2 * trees_size (trees l.parts)

abbrev pub invariant-add_among-loop-tree : goal.invariant-add_among-loop-tree
invariant-add_among-loop-tree l =
    (goal.iterator-add_among-loop-tree).can_next l.tree-iterator × (goal.iterator-add_among-loop-tree).is_finite l.tree-iterator
    × (l.list.items ++ rows_of l.owner (inner_among (trees l.tree-iterator)) ≡ l.fn.list.items ++ rows_of l.owner (inner_among (trees l.fn.parts)))
    × (trees_size (trees l.tree-iterator) ≤ trees_size (trees l.fn.parts))
