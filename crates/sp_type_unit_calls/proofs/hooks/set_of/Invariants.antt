use Rattle.std.proofs.Common.{ℕ, ◌≡◌, drop}
use Rattle.std.specs.Prelude.{◌||◌}
use Rattle.sp_type_unit_calls.specs.HookCalling.{has}
use Rattle.sp_type_unit_calls.specs.inside.Units.{has_told}
use Rattle.sp_type_unit_calls.proofs.hooks.set_of.Given as goal

abbrev pub invariant-loop-i : goal.invariant-loop-i
invariant-loop-i l = (n : ℕ) → (has_told l.set n || has n (drop l.i l.units)) ≡ has n l.units
