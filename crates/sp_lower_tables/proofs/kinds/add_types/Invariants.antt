use Rattle.std.proofs.Common.{drop}
use Rattle.sp_meaning.specs.Globals.{globals_of}
use Rattle.sp_code_programs.specs.programs.Routines.{slot_kinds}
use Rattle.sp_lower_tables.proofs.Numbered.{Leads}
use Rattle.sp_lower_tables.proofs.kinds.add_types.Given as goal

abbrev pub invariant-loop-ty : goal.invariant-loop-ty
invariant-loop-ty l = Leads (slot_kinds (globals_of l.list).ranges) l.fn.out l.out l.fn.numbers.items l.numbers.items l.types (drop l.ty-index l.types)
