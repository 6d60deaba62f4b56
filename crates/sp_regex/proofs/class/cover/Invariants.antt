use Rattle.std.proofs.Common.{◌≡◌, ℕ, ◌<◌, ◌&&◌, ◌||◌, false, nat_le, nat_lt, slice_index_or}
use Rattle.sp_regex.proofs.class.cover.Given as goal

abbrev pub invariant-loop-b : goal.invariant-loop-b
invariant-loop-b l = (k : ℕ) → k < 256 → slice_index_or l.covered k false ≡ (slice_index_or l.fn.covered k false || (nat_le l.fn.range.from k && nat_lt k l.b))
