use Rattle.std.proofs.Common.{◌≡◌}
use Rattle.sp_ast.specs.Trees.{trees}
use Rattle.sp_unbuilt.specs.First.{noted}
use Rattle.sp_unbuilt.specs.Constructs.{each_tests}
use Rattle.sp_unbuilt.proofs.fields.note_each.Given as goal

abbrev pub invariant-loop-body : goal.invariant-loop-body
invariant-loop-body l =
    (goal.iterator-loop-body).can_next l.body-iterator × (goal.iterator-loop-body).is_finite l.body-iterator
    × (noted l.first (each_tests l.owner (trees l.body-iterator)) ≡ noted l.fn.first (each_tests l.owner (trees l.hooks)))
