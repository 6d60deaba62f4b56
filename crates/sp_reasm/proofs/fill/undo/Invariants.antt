use Rattle.std.proofs.Common.{◌≡◌, length}
use Rattle.sp_reasm.specs.inside.Filling.{undone}
use Rattle.sp_reasm.proofs.fill.undo.Given as goal

abbrev pub invariant-loop-start : goal.invariant-loop-start
invariant-loop-start l = undone l.starts.items l.pieces ≡ undone l.initial.starts.items l.initial.pieces

abbrev pub decreases-loop-start : goal.decreases-loop-start
decreases-loop-start l = length l.starts.items
