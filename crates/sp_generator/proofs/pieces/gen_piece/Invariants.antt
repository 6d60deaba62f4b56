use Rattle.std.proofs.Common.{◌≡◌, ◌≤◌, ◌-◌, ◌++◌, length, take, drop}
use Rattle.sp_generator.specs.Input.{input}
use Rattle.sp_generator.specs.inside.Ahead.{bytes_of, IsSmall}
use Rattle.sp_generator.proofs.pieces.gen_piece.Given as goal

abbrev pub invariant-bytes : goal.invariant-bytes
invariant-bytes l = record {
  small : IsSmall l.ahead;
  short : length l.piece ≤ l.most;
  value : l.piece ++ take (l.most - length l.piece) (bytes_of l.ahead) ≡ take l.most (drop l.from (input l.n));
}

abbrev pub decreases-bytes : goal.decreases-bytes
decreases-bytes l = l.most - length l.piece
