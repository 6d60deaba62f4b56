use Rattle.std.proofs.Common.{◌≡◌, length}
use Rattle.sp_emit.specs.Numbered.{with_numbers, lowest_numbers, Moves}
use Rattle.sp_emit.proofs.here.Here.lower.Given as goal

abbrev pub invariant-loop-self : goal.invariant-loop-self
invariant-loop-self l = record {
  moves : Moves l.fn.self l.self (with_numbers l.fn.self.shape l.self.shape.operands);
  lowest : lowest_numbers l.depth l.self.shape.operands ≡ lowest_numbers l.depth l.fn.self.shape.operands;
}

abbrev pub decreases-loop-self : goal.decreases-loop-self
decreases-loop-self l = length l.self.shape.operands
