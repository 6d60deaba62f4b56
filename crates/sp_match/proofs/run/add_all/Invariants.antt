use Rattle.std.proofs.Common.{◌≡◌, ◌<◌, ◌*◌, ◌||◌, ℕ, true, length, take}
use Rattle.sp_match.specs.Sets.{has}
use Rattle.sp_match.specs.Bits.{holds}
use Rattle.sp_match.proofs.run.add_all.Given as goal

abbrev pub invariant-loop-i : goal.invariant-loop-i
invariant-loop-i l = record {
  spots : ((q : ℕ) → has l.spots q ≡ true → q < 64 * length l.initial.set.items) → (q : ℕ) → holds l.set.items q ≡ (holds l.initial.set.items q || has (take l.i l.spots) q);
  len : length l.set.items ≡ length l.initial.set.items;
}
