use Rattle.std.proofs.Common.{◌≡◌, ◌++◌, drop}
use Rattle.sp_solver.specs.Told.{told}
use Rattle.sp_scope.specs.Kept.{kept, kept_from}
use Rattle.sp_scope.proofs.kept_values.kept.Given as goal

abbrev pub invariant-loop-row : goal.invariant-loop-row
invariant-loop-row l =
    l.all.items ++ kept_from l.known.row.now.0 (told l.known.row.now.1) (told l.known.answers.now) l.number (drop l.row-index l.rows) ≡ kept l.known.row.now.0 (told l.known.row.now.1) (told l.known.answers.now)
