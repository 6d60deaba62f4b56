use Rattle.std.proofs.Common.{◌≡◌, ◌<◌, ◌≤◌, ◌-◌, ◌+◌, ◌*◌, ℕ, false}
use Rattle.sp_match.specs.Nets.{at, jumps}
use Rattle.sp_match.specs.Jumps.{lead, IsRising}
use Rattle.sp_match.proofs.word_jumps.jumps_of_word.Given as goal

abbrev pub invariant-loop-bit : goal.invariant-loop-bit
invariant-loop-bit l = record {
  done : (b q : ℕ) → b < l.bit → lead l.jumps.items b q ≡ jumps (at l.net (l.word * 64 + b)) q;
  rest : (b q : ℕ) → l.bit ≤ b → lead l.jumps.items b q ≡ false;
  rising : IsRising l.jumps.items (l.bit - 1);
}
