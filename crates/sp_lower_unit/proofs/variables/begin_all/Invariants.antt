use Rattle.std.proofs.Common.{drop}
use Rattle.sp_code_programs.specs.units.Units.{begin_code}
use Rattle.sp_lower_unit.proofs.Joined.{Row}
use Rattle.sp_lower_unit.proofs.variables.begin_all.Given as goal

abbrev pub invariant-loop-variable : goal.invariant-loop-variable
invariant-loop-variable l = Row (begin_code l.list l.unit l.fn.out.now l.members) l.fn.out.now l.fn.out l.out l.variables (drop l.variable-index l.variables)
