use Rattle.std.proofs.Common.{◌≡◌, ℕ, ◌<◌, get_or}
use lib.Bits.{bit_and}
use Rattle.sp_match.proofs.bits.meets.Given as goal

abbrev pub invariant-loop-i : goal.invariant-loop-i
invariant-loop-i l = (k : ℕ) → k < l.i → bit_and (get_or l.set.items k 0) (get_or l.other.items k 0) ≡ 0
