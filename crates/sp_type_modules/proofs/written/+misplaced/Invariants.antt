use Rattle.std.proofs.Common.{◌≡◌, ◌≤◌, ◌+◌, ◌*◌}
use Rattle.sp_ast.specs.Trees.{tree_size, trees_size, trees}
use Rattle.sp_solver.specs.Told.{told}
use Rattle.sp_type_modules.specs.Written.{misplaced_among}
use Rattle.sp_type_modules.proofs.written.+misplaced.Given as goal

abbrev pub decreases-misplaced_in : goal.decreases-misplaced_in
decreases-misplaced_in l = 3 * tree_size l.tree.now + 2

abbrev pub decreases-misplaced_inside : goal.decreases-misplaced_inside
decreases-misplaced_inside l = 3 * tree_size l.tree.now + 1

abbrev pub decreases-misplaced_among : goal.decreases-misplaced_among
decreases-misplaced_among l = 3 * trees_size (trees l.members)

abbrev pub invariant-misplaced_among-loop-member : goal.invariant-misplaced_among-loop-member
invariant-misplaced_among-loop-member l =
    (goal.iterator-misplaced_among-loop-member).can_next l.member-iterator × (goal.iterator-misplaced_among-loop-member).is_finite l.member-iterator
    × (misplaced_among l.names (told l.known) l.owner (trees l.member-iterator) ≡ misplaced_among l.names (told l.known) l.owner (trees l.fn.members))
    × (trees_size (trees l.member-iterator) ≤ trees_size (trees l.fn.members))
