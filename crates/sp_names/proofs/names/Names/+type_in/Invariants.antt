use Rattle.std.proofs.Common.{◌≡◌, ◌≤◌, ◌+◌, ◌*◌}
use Rattle.sp_ast.specs.Trees.{tree_size, trees_size, trees}
use Rattle.sp_solver.specs.Told.{told}
use Rattle.sp_names.specs.Types.{types_in}
use Rattle.sp_names.proofs.TypesOf.{joined}
use Rattle.sp_names.proofs.names.Names.+type_in.Given as goal

abbrev pub decreases-type_in : goal.decreases-type_in
decreases-type_in l = 2 * tree_size l.tree.now + 1

abbrev pub decreases-types_in : goal.decreases-types_in
decreases-types_in l = 2 * trees_size (trees l.members)

abbrev pub invariant-types_in-loop-member : goal.invariant-types_in-loop-member
invariant-types_in-loop-member l =
    (goal.iterator-types_in-loop-member).can_next l.member-iterator × (goal.iterator-types_in-loop-member).is_finite l.member-iterator
    × (joined l.parts.items (types_in l.self (told l.known) l.owner (trees l.member-iterator)) ≡ types_in l.self (told l.known) l.owner (trees l.fn.members))
    × (trees_size (trees l.member-iterator) ≤ trees_size (trees l.fn.members))
