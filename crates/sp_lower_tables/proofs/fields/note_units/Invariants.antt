use Rattle.std.proofs.Common.{drop}
use Rattle.sp_code_programs.specs.programs.Currents.{hooked_field}
use Rattle.sp_lower_tables.proofs.Noted.{Leads}
use Rattle.sp_lower_tables.proofs.fields.note_units.Given as goal

abbrev pub invariant-loop-unit : goal.invariant-loop-unit
invariant-loop-unit l = Leads (λ xs h. hooked_field h xs) l.fn.rows.items l.rows.items l.units (drop l.unit-index l.units)
