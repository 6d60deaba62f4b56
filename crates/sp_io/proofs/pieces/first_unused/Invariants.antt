use Rattle.std.proofs.Common.{◌≡◌, ◌-◌, length, drop}
use Rattle.sp_io.specs.Held.{unused, passed, IsUsedWithin}
use Rattle.sp_io.proofs.pieces.first_unused.Given as goal

-- what was passed over is empty
abbrev pub invariant-loop-at : goal.invariant-loop-at
invariant-loop-at l = record {
  same : passed (unused l.taken (drop l.at l.pieces)) ≡ passed (unused l.used (drop l.index l.pieces));
  within : IsUsedWithin l.taken (drop l.at l.pieces);
}

abbrev pub decreases-loop-at : goal.decreases-loop-at
decreases-loop-at l = length l.pieces - l.at
