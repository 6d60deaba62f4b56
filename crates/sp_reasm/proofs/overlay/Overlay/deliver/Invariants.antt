use Rattle.std.proofs.Common.{◌-◌, ◌^◌}
use Rattle.sp_reasm.specs.inside.Overlays.{owner_in}
use Rattle.sp_reasm.proofs.TellLemmas.{Leads}
use Rattle.sp_reasm.proofs.overlay.Overlay.deliver.Given as goal

abbrev pub invariant-loop-next : goal.invariant-loop-next
invariant-loop-next l = Leads (owner_in l.self) l.from l.at l.initial.notes l.notes

abbrev pub decreases-loop-next : goal.decreases-loop-next
decreases-loop-next l = 2 ^ 62 - l.at
