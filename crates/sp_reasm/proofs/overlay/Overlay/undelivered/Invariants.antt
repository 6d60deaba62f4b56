use Rattle.std.proofs.Common.{◌≡◌, ◌-◌, ◌++◌, map}
use Rattle.sp_reasm.specs.Notes.{runs, undelivered_note}
use Rattle.sp_reasm.specs.inside.Overlays.{owner_in, data_in}
use Rattle.sp_reasm.proofs.overlay.Overlay.undelivered.Given as goal

abbrev pub invariant-loop-run : goal.invariant-loop-run
invariant-loop-run l = l.notes ++ map undelivered_note (runs l.at (data_in (owner_in l.self) l.at l.to)) ≡ l.initial.notes ++ map undelivered_note (runs l.from (data_in (owner_in l.self) l.from l.to))

abbrev pub decreases-loop-run : goal.decreases-loop-run
decreases-loop-run l = l.to - l.at
