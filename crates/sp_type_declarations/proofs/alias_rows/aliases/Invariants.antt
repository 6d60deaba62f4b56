use Rattle.std.proofs.Common.{◌≡◌, ◌++◌, drop}
use Rattle.sp_solver.specs.Told.{told}
use Rattle.sp_type_declarations.specs.Aliases.{aliases_from}
use Rattle.sp_type_declarations.proofs.alias_rows.aliases.Given as goal

abbrev pub invariant-loop-i : goal.invariant-loop-i
invariant-loop-i l =
    l.list.items ++ aliases_from l.names (told l.known) l.i (drop l.i l.rows) ≡ aliases_from l.names (told l.known) 0 l.rows
