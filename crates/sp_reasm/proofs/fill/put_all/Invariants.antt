use Rattle.std.proofs.Common.{◌≡◌, ◌-◌}
use Rattle.sp_reasm.specs.Pieces.{owner_of}
use Rattle.sp_reasm.specs.inside.Filling.{undone}
use Rattle.sp_reasm.proofs.FillLemmas.{Fills}
use Rattle.sp_reasm.proofs.fill.put_all.Given as goal

abbrev pub invariant-loop-at : goal.invariant-loop-at
invariant-loop-at l = Fills (owner_of l.initial.pieces) (owner_of l.pieces) l.start l.cover l.from l.at × (undone l.starts.items l.pieces ≡ undone l.initial.starts.items l.initial.pieces)

abbrev pub decreases-loop-at : goal.decreases-loop-at
decreases-loop-at l = l.end - l.at
