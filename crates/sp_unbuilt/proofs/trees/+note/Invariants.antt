use Rattle.std.proofs.Common.{◌≡◌, ◌≤◌, ◌+◌, ◌*◌}
use Rattle.sp_ast.specs.Trees.{tree_size, trees_size, trees}
use Rattle.sp_unbuilt.specs.First.{noted}
use Rattle.sp_unbuilt.specs.Unbuilt.{tests_among}
use Rattle.sp_unbuilt.proofs.trees.+note.Given as goal

abbrev pub decreases-note_tree : goal.decreases-note_tree
decreases-note_tree l = 2 * tree_size l.tree.now + 1

abbrev pub decreases-note_among : goal.decreases-note_among
decreases-note_among l = 2 * trees_size (trees l.parts)

abbrev pub invariant-note_among-loop-tree : goal.invariant-note_among-loop-tree
invariant-note_among-loop-tree l =
    (goal.iterator-note_among-loop-tree).can_next l.tree-iterator × (goal.iterator-note_among-loop-tree).is_finite l.tree-iterator
    × (noted l.first (tests_among l.text l.owner (trees l.tree-iterator)) ≡ noted l.fn.first (tests_among l.text l.owner (trees l.fn.parts)))
    × (trees_size (trees l.tree-iterator) ≤ trees_size (trees l.fn.parts))
