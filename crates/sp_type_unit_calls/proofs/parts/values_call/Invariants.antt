use Rattle.std.proofs.Common.{◌≡◌, drop}
use Rattle.std.specs.List.{list_any}
use Rattle.sp_type_unit_calls.specs.Calls.{expr_calls}
use Rattle.sp_type_unit_calls.proofs.parts.values_call.Given as goal

abbrev pub invariant-loop-e : goal.invariant-loop-e
invariant-loop-e l = list_any (expr_calls l.method) (drop l.e-index l.values) ≡ list_any (expr_calls l.method) l.values
