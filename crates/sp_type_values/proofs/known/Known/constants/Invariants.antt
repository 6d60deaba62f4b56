use Rattle.std.proofs.Common.{◌≡◌, ◌++◌, drop}
use Rattle.sp_solver.specs.Told.{told}
use Rattle.sp_type_values.specs.TypedRows.{constants_from, typed_constants}
use Rattle.sp_type_values.proofs.known.Known.constants.Given as goal

abbrev pub invariant-loop-row : goal.invariant-loop-row
invariant-loop-row l =
    l.list.items ++ constants_from l.self.row.now.0 (told l.self.row.now.1) (told l.self.answers.now) l.number (drop l.row-index l.rows) ≡ typed_constants l.self.row.now.0 (told l.self.row.now.1) (told l.self.answers.now)
