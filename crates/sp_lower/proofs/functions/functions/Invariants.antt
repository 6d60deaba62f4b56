use Rattle.std.proofs.Common.{drop}
use Rattle.std.specs.List.{AllByRecursion}
use Rattle.sp_meaning.specs.Globals.{globals_of}
use Rattle.sp_code_programs.specs.programs.Routines.{function_routines}
use Rattle.sp_lower.specs.Literals.{FunctionFits}
use Rattle.sp_lower.proofs.Laid.{Leads}
use Rattle.sp_lower.proofs.functions.functions.Given as goal

abbrev pub invariant-loop-x : goal.invariant-loop-x
invariant-loop-x l = record {
  fits : AllByRecursion FunctionFits (drop l.x-index l.all);
  laid :
      Leads (globals_of l.list) l.fn.out l.fn.bodies l.out l.bodies (function_routines (globals_of l.list) l.all) (function_routines (globals_of l.list) (drop l.x-index l.all));
}
