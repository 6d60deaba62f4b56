use Rattle.std.proofs.Common.{◌≡◌, ◌≤◌, ◌+◌, ◌*◌}
use Rattle.sp_ast.specs.Trees.{tree_size, trees_size, trees}
use Rattle.sp_solver.specs.Told.{told}
use Rattle.sp_type_modules.specs.Written.{unnamed_among}
use Rattle.sp_type_modules.proofs.written.+unnamed.Given as goal

abbrev pub decreases-unnamed_in : goal.decreases-unnamed_in
decreases-unnamed_in l = 2 * tree_size l.tree.now + 1

abbrev pub decreases-unnamed_among : goal.decreases-unnamed_among
decreases-unnamed_among l = 2 * trees_size (trees l.members)

abbrev pub invariant-unnamed_among-loop-member : goal.invariant-unnamed_among-loop-member
invariant-unnamed_among-loop-member l =
    (goal.iterator-unnamed_among-loop-member).can_next l.member-iterator × (goal.iterator-unnamed_among-loop-member).is_finite l.member-iterator
    × (unnamed_among l.names (told l.known) l.owner (trees l.member-iterator) ≡ unnamed_among l.names (told l.known) l.owner (trees l.fn.members))
    × (trees_size (trees l.member-iterator) ≤ trees_size (trees l.fn.members))
