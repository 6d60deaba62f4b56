use Rattle.std.proofs.Common.{◌≡◌, slice_get, drop}
use Rattle.sp_value.specs.Pieces.{all_in}
use Rattle.sp_machine.proofs.rows.nth_in.Given as goal

abbrev pub invariant-loop-piece : goal.invariant-loop-piece
invariant-loop-piece g l = slice_get (all_in (drop l.piece-index l.pieces)) l.left ≡ slice_get (all_in l.pieces) l.n
