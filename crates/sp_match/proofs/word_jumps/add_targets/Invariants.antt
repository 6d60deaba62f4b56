use Rattle.std.proofs.Common.{◌≡◌, ◌==◌, ◌&&◌, ◌||◌, ℕ, take}
use Rattle.sp_match.specs.Sets.{has}
use Rattle.sp_match.specs.Jumps.{lead, IsRising}
use Rattle.sp_match.proofs.word_jumps.add_targets.Given as goal

abbrev pub invariant-loop-i : goal.invariant-loop-i
invariant-loop-i l = record {
  lead : (b q : ℕ) → lead l.jumps.items b q ≡ (lead l.initial.jumps.items b q || (has (take l.i l.to) q && (b == l.bit)));
  rising : IsRising l.initial.jumps.items l.bit → IsRising l.jumps.items l.bit;
}
