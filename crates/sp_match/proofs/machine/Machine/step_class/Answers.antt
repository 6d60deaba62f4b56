use Rattle.std.proofs.Common.{subst, sym, arith}
use Rattle.sp_match.specs.Bits.{holds, row, IsStep}
use Rattle.sp_match.proofs.Tabling.{row_is}
use Rattle.sp_match.proofs.Stepping.{no_step, past_none}
use Rattle.sp_match.proofs.machine.Machine.step_class.Goals as goal

pub returns-then-class-len-clause-step : goal.returns-then-class-len-clause-step
returns-then-class-len-clause-step c = λ fits.
    let is = row_is c.args.self.now.readers.items c.args.class c.index.result.now (omega arith) c.index.ensures in
    subst (λ z. IsStep (holds c.args.live.now.items) (holds z) c.args.self.now.nexts.items (holds c.step_by.new.next.items)) (sym is) (c.step_by.ensures.step fits)

pub returns-else-class-len-clause-step : goal.returns-else-class-len-clause-step
returns-else-class-len-clause-step c = λ fits. no_step (holds c.args.live.now.items) (holds (row c.args.self.now.readers.items c.args.class)) c.args.self.now.nexts.items (holds c.clear.new.set.items) c.clear.ensures.none (λ q. past_none c.args.self.now.readers.items c.args.class q (omega arith))
