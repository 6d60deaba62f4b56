use Rattle.std.proofs.Common.{◌≡◌, ◌-◌, ◌≤◌, ◌++◌, drop}
use Rattle.sp_reasm.specs.inside.Overlays.{owner_in, overlaps_in}
use Rattle.sp_reasm.proofs.overlay.Overlay.overlaps.Given as goal

abbrev pub invariant-loop-run : goal.invariant-loop-run
invariant-loop-run l = (l.from ≤ l.at) × (l.at ≤ l.to) × (l.notes ++ overlaps_in (owner_in l.self) l.at (drop (l.at - l.from) l.bytes) ≡ l.initial.notes ++ overlaps_in (owner_in l.self) l.from l.bytes)

abbrev pub decreases-loop-run : goal.decreases-loop-run
decreases-loop-run l = l.to - l.at
