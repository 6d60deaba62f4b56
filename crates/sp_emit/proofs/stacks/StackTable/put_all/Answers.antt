use Rattle.std.proofs.Common.{arith}
use Rattle.sp_code.specs.Programs.{stack_at}
use Rattle.sp_emit.proofs.Listed.{extends_not, extends_then, row_next, rows_from_end}
use Rattle.sp_emit.proofs.stacks.StackTable.put_all.Goals as goal

pub loop-left-init : goal.loop-left-init
loop-left-init c =
    record { within = omega arith; row = rows_from_end c.args.self.now c.args.numbers.now _ c.args.below (omega arith) c.requires; grows = extends_not c.args.self.now }

pub loop-left-preserved : goal.loop-left-preserved
loop-left-preserved c =
    let so_far = c.loop-left.invariant in
    record {
      within = omega arith;
      row = row_next c.loop-left.self c.put.new.self c.args.numbers.now (stack_at c.args.self.now c.args.below) _ c.loop-left.left _ _ (omega arith) so_far.within so_far.row.is c.in_ok-row.ensures.row;
      grows = extends_then _ _ _ so_far.grows c.put.ensures.grows;
    }
