use Rattle.std.proofs.Common.{◌≡◌, ℕ, ◌<◌, ◌&&◌, false, not, slice_index_or}
use Rattle.sp_regex.specs.Bytes.{is_within}
use Rattle.sp_regex.proofs.class.leaves_uncovered.Given as goal

abbrev pub invariant-loop-i : goal.invariant-loop-i
invariant-loop-i l = (k : ℕ) → k < l.i → (not (slice_index_or l.covered k false) && not (is_within k l.range)) ≡ false
