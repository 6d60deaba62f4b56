use Rattle.std.proofs.Common.{drop}
use Rattle.sp_meaning.specs.Globals.{globals_of}
use Rattle.sp_code_programs.specs.programs.Routines.{parameter_kinds}
use Rattle.sp_lower_tables.proofs.Numbered.{Leads}
use Rattle.sp_lower_tables.proofs.kinds.add_parameters.Given as goal

abbrev pub invariant-loop-parameter : goal.invariant-loop-parameter
invariant-loop-parameter l = Leads (parameter_kinds (globals_of l.list).ranges) l.fn.out l.out l.fn.numbers.items l.numbers.items l.parameters (drop l.parameter-index l.parameters)
