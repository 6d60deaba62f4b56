use Rattle.std.proofs.Common.{◌≡◌, drop}
use Rattle.sp_type_unit_calls.specs.PartCalls.{variables_call}
use Rattle.sp_type_unit_calls.proofs.parts.variables_call.Given as goal

abbrev pub invariant-loop-variable : goal.invariant-loop-variable
invariant-loop-variable l = variables_call l.method (drop l.variable-index l.all) ≡ variables_call l.method l.all
