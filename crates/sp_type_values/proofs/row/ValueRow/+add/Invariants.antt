use Rattle.std.proofs.Common.{◌≡◌, ◌≤◌, ◌++◌, ◌+◌, ◌*◌}
use Rattle.sp_ast.specs.Trees.{tree_size, trees_size, trees}
use Rattle.sp_solver.specs.Told.{told}
use Rattle.sp_type_values.specs.Valued.{needs_among}
use Rattle.sp_type_values.proofs.row.ValueRow.+add.Given as goal

abbrev pub decreases-add_needs : goal.decreases-add_needs
decreases-add_needs l = 2 * tree_size l.tree.now + 1

abbrev pub decreases-add_among : goal.decreases-add_among
decreases-add_among l = 2 * trees_size (trees l.parts)

abbrev pub invariant-add_among-loop-tree : goal.invariant-add_among-loop-tree
invariant-add_among-loop-tree l =
    (goal.iterator-add_among-loop-tree).can_next l.tree-iterator × (goal.iterator-add_among-loop-tree).is_finite l.tree-iterator
    × (l.list.items ++ needs_among l.self.0 (told l.self.1) l.owner (trees l.tree-iterator) ≡ l.fn.list.items ++ needs_among l.self.0 (told l.self.1) l.owner (trees l.fn.parts))
    × (trees_size (trees l.tree-iterator) ≤ trees_size (trees l.fn.parts))
