use Rattle.std.proofs.Common.{◌≡◌, drop}
use Rattle.sp_type_scopes.specs.inside.Tables.{LeadsTo}
use Rattle.sp_name_tables.specs.Tables.{told_by}
use Rattle.sp_type_scopes.proofs.numbers.numbers_of.Given as goal

abbrev pub invariant-loop-i : goal.invariant-loop-i
invariant-loop-i l =
    (l.number ≡ l.i) × LeadsTo l.parameters l.number (drop l.i l.parameters) (told_by l.table)
