use Rattle.std.proofs.Common.{◌≡◌, ◌<◌, ◌≤◌, ◌*◌, ◌+◌, ℕ, Bool, List, length}
use Rattle.sp_match.specs.declared.spot.Spot.{Spot}
use Rattle.sp_match.specs.Bits.{holds}
use Rattle.sp_match.specs.Nets.{Orderly}
use Rattle.sp_match.specs.Jumps.{AreWordJumps}
use Rattle.sp_match.specs.Running.{Closing}
use Rattle.sp_match.proofs.Jumping.{WordClosing}
use Rattle.sp_match.proofs.run.close_word.Given as goal

abbrev pub invariant-loop-i : goal.invariant-loop-i
invariant-loop-i l = record {
  closing : (net : List Spot) (initial : ℕ → Bool) → Orderly net → length net < 64 * length l.initial.set.items → AreWordJumps net l.word l.jumps.items → Closing net initial (holds l.initial.set.items) ((l.word + 1) * 64) → WordClosing net initial (holds l.set.items) l.word l.jumps.items l.i;
  len : length l.set.items ≡ length l.initial.set.items;
  within : l.i ≤ length l.jumps.items;
}

abbrev pub decreases-loop-i : goal.decreases-loop-i
decreases-loop-i l = l.i
