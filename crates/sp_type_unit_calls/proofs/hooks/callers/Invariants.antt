use Rattle.std.proofs.Common.{◌≡◌, ◌++◌, drop}
use Rattle.sp_type_unit_calls.specs.HookCalling.{callers}
use Rattle.sp_type_unit_calls.proofs.hooks.callers.Given as goal

abbrev pub invariant-loop-i : goal.invariant-loop-i
invariant-loop-i l = l.units.items ++ callers l.method (drop l.i l.hooks) ≡ callers l.method l.hooks
