use Rattle.std.proofs.Common.{◌≡◌, ◌<◌, ◌≤◌, ◌*◌, List, length}
use Rattle.sp_match.specs.declared.spot.Spot.{Spot}
use Rattle.sp_match.specs.Bits.{holds}
use Rattle.sp_match.specs.Nets.{Orderly}
use Rattle.sp_match.specs.Jumps.{AreJumps}
use Rattle.sp_match.specs.Running.{Closing}
use Rattle.sp_match.proofs.run.close.Given as goal

abbrev pub invariant-loop-word : goal.invariant-loop-word
invariant-loop-word l = record {
  closing : (net : List Spot) → Orderly net → length net < 64 * length l.initial.set.items → AreJumps net l.jumps.items → Closing net (holds l.initial.set.items) (holds l.set.items) (l.word * 64);
  len : length l.set.items ≡ length l.initial.set.items;
  within : l.word ≤ length l.set.items;
}

abbrev pub decreases-loop-word : goal.decreases-loop-word
decreases-loop-word l = l.word
