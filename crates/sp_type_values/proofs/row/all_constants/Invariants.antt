use Rattle.std.proofs.Common.{◌≡◌, ◌++◌, drop}
use Rattle.sp_solver.specs.Told.{told}
use Rattle.sp_type_values.specs.Valued.{constants_among}
use Rattle.sp_type_values.proofs.row.all_constants.Given as goal

abbrev pub invariant-loop-row : goal.invariant-loop-row
invariant-loop-row l =
    l.list.items ++ constants_among l.names (told l.known) (drop l.row-index l.rows) ≡ constants_among l.names (told l.known) l.rows
