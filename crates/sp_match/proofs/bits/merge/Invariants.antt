use Rattle.std.proofs.Common.{◌≡◌, ℕ, ◌<◌, ◌≤◌, get_or, length}
use Rattle.std.specs.Int.RustNames.{bit_or}
use Rattle.sp_match.proofs.bits.merge.Given as goal

abbrev pub invariant-loop-i : goal.invariant-loop-i
invariant-loop-i l = record {
  done : (k : ℕ) → k < l.i → get_or l.set.items k 0 ≡ bit_or (get_or l.initial.set.items k 0) (get_or l.more.items k 0);
  len : length l.set.items ≡ length l.initial.set.items;
  rest : (k : ℕ) → l.i ≤ k → get_or l.set.items k 0 ≡ get_or l.initial.set.items k 0;
}
