use Rattle.std.proofs.Common.{◌≡◌, drop}
use Rattle.sp_names.specs.Names.{name_of_module}
use Rattle.sp_names.specs.Tables.{LeadsTo}
use Rattle.sp_name_tables.specs.Tables.{told_by}
use Rattle.sp_names.proofs.table.module_table.Given as goal

abbrev pub invariant-loop-i : goal.invariant-loop-i
invariant-loop-i l = (l.number ≡ l.i) × LeadsTo name_of_module 0 l.modules l.number (drop l.i l.modules) (told_by l.table)
