use Rattle.std.proofs.Common.{◌≡◌, ◌≤◌, ◌+◌, ◌*◌}
use Rattle.sp_ast.specs.Trees.{tree_size, trees_size, trees}
use Rattle.sp_rules.specs.Least.{checked}
use Rattle.sp_solver.specs.Told.{told}
use Rattle.sp_names.specs.Faults.{faults_among}
use Rattle.sp_name_answers.proofs.faults.+note.Given as goal

abbrev pub decreases-note_tree : goal.decreases-note_tree
decreases-note_tree l = 2 * tree_size l.tree.now + 1

abbrev pub decreases-note_among : goal.decreases-note_among
decreases-note_among l = 2 * trees_size (trees l.parts)

abbrev pub invariant-note_among-loop-tree : goal.invariant-note_among-loop-tree
invariant-note_among-loop-tree l =
    (goal.iterator-note_among-loop-tree).can_next l.tree-iterator × (goal.iterator-note_among-loop-tree).is_finite l.tree-iterator
    × (checked l.least (faults_among l.names (told l.known) l.owner (trees l.tree-iterator)) ≡ checked l.fn.least (faults_among l.names (told l.known) l.owner (trees l.fn.parts)))
    × (trees_size (trees l.tree-iterator) ≤ trees_size (trees l.fn.parts))
