use Rattle.std.proofs.Common.{ℕ, ◌≡◌, drop, List}
use Rattle.sp_rules.specs.Least.{checked}
use Rattle.sp_type_hook_rows.specs.Tests.{hook_tests}
use Rattle.sp_type_hook_rows.specs.inside.Found.{AreFound}
use Rattle.sp_type_hook_rows.proofs.containers.note_rows.Given as goal

abbrev pub invariant-loop-i : goal.invariant-loop-i
invariant-loop-i l =
    (all : List (ℕ × ℕ)) → AreFound all l.found → checked l.least (hook_tests all (drop l.i l.rows)) ≡ checked l.fn.least (hook_tests all l.rows)
