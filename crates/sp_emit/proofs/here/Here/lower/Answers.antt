use Rattle.std.proofs.Common.{refl, arith}
use Rattle.sp_emit.proofs.Moving.{lowers_not, lowers_one, lowest_left, lowers}
use Rattle.sp_emit.proofs.here.Here.lower.Goals as goal

pub loop-self-init : goal.loop-self-init
loop-self-init c = record { moves = lowers_not c.args.self.now; lowest = refl }

pub loop-self-preserved : goal.loop-self-preserved
loop-self-preserved c =
    record {
      moves = lowers_one c.args.self.now c.loop-self.self c.pop.new.self c.loop-self.invariant.moves c.pop.ensures;
      lowest = lowest_left c.args.depth _ c.loop-self.self c.pop.new.self (omega arith) c.pop.ensures c.loop-self.invariant.lowest;
    }

pub returns : goal.returns
returns c = lowers c.args.depth c.args.self.now c.loop-self.self c.loop-self.invariant.moves (omega arith) c.loop-self.invariant.lowest
