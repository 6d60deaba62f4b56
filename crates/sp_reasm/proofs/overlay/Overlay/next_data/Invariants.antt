use Rattle.std.proofs.Common.{◌-◌, ◌≤◌}
use Rattle.sp_reasm.specs.inside.Overlays.{owner_in, NoData}
use Rattle.sp_reasm.proofs.overlay.Overlay.next_data.Given as goal

abbrev pub invariant-loop-at : goal.invariant-loop-at
invariant-loop-at l = (l.from ≤ l.at) × NoData (owner_in l.self) l.from l.at

abbrev pub decreases-loop-at : goal.decreases-loop-at
decreases-loop-at l = l.to - l.at
