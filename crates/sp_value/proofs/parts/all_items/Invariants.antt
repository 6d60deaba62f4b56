use Rattle.std.proofs.Common.{◌≡◌, ◌++◌, drop}
use Rattle.sp_value.specs.Pieces.{all_in}
use Rattle.sp_value.proofs.parts.all_items.Given as goal

abbrev pub invariant-loop-piece : goal.invariant-loop-piece
invariant-loop-piece g l = l.items.items ++ all_in (drop l.piece-index l.pieces) ≡ all_in l.pieces
