use Rattle.std.proofs.Common.{◌≡◌, ◌++◌, drop, map}
use Rattle.sp_lower_hooks.specs.inside.Turns.{key_number}
use Rattle.sp_lower_hooks.proofs.keys.numbers_of.Given as goal

abbrev pub invariant-loop-i : goal.invariant-loop-i
invariant-loop-i l = l.numbers.items ++ map key_number (drop l.i l.keys) ≡ map key_number l.keys
