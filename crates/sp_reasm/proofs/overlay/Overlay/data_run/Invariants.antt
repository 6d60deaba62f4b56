use Rattle.std.proofs.Common.{◌-◌}
use Rattle.sp_reasm.specs.inside.Overlays.{owner_in}
use Rattle.sp_reasm.proofs.RunLemmas.{AreRead}
use Rattle.sp_reasm.proofs.overlay.Overlay.data_run.Given as goal

abbrev pub invariant-loop-at : goal.invariant-loop-at
invariant-loop-at l = AreRead (owner_in l.self) l.from l.to l.at l.run

abbrev pub decreases-loop-at : goal.decreases-loop-at
decreases-loop-at l = l.to - l.at
