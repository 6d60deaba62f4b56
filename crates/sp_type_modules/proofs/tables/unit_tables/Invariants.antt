use Rattle.std.proofs.Common.{◌≡◌, length}
use Rattle.sp_solver.specs.Told.{told}
use Rattle.sp_names.specs.Tables.{Each}
use Rattle.sp_type_modules.specs.Members.{first_member}
use Rattle.sp_type_modules.specs.inside.Tables.{IsUnit}
use Rattle.sp_type_modules.proofs.tables.unit_tables.Given as goal

abbrev pub invariant-loop-n : goal.invariant-loop-n
invariant-loop-n l =
    (l.first ≡ first_member l.names l.n) × (length l.tables.items ≡ l.n) × Each (IsUnit l.names (told l.known)) l.tables.items
