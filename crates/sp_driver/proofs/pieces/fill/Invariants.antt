use Rattle.std.proofs.Common.{◌≡◌, ◌≤◌, ◌-◌, length}
use Rattle.sp_io.specs.Moved.{prepended}
use Rattle.sp_driver.proofs.pieces.fill.Given as goal

abbrev pub invariant-loop-piece : goal.invariant-loop-piece
invariant-loop-piece g l = record {
  took : g.S.Source.left l.fn.input ≡ prepended l.piece (g.S.Source.left l.input);
  bound : length l.piece ≤ l.n;
  quiet : g.S.Source.faults l.input ≡ g.S.Source.faults l.fn.input;
}

abbrev pub decreases-loop-piece : goal.decreases-loop-piece
decreases-loop-piece g l = l.n - length l.piece
