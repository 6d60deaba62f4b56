use Rattle.std.proofs.Common.{◌≡◌, length}
use Rattle.sp_solver.specs.Told.{told}
use Rattle.sp_names.specs.Tables.{Each}
use Rattle.sp_type_modules.specs.inside.Tables.{IsFunction}
use Rattle.sp_type_modules.proofs.tables.function_tables.Given as goal

abbrev pub invariant-loop-n : goal.invariant-loop-n
invariant-loop-n l = (length l.tables.items ≡ l.n) × Each (IsFunction l.names (told l.known)) l.tables.items
