use Rattle.std.proofs.Common.{◌≡◌, ℕ, ◌<◌, length, get_or}
use Rattle.sp_match.proofs.bits.none.Given as goal

abbrev pub invariant-loop : goal.invariant-loop
invariant-loop l = record {
  zero : (i : ℕ) → i < length l.set.items → get_or l.set.items i 0 ≡ 0;
  len : length l.set.items ≡ l.counter;
}
