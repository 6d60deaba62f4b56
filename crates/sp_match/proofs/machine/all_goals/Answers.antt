use Rattle.std.proofs.Common.{arith, subst, sym}
use Rattle.sp_match.specs.Tables.{AreGoals}
use Rattle.sp_match.proofs.Stepping.{goals_none}
use Rattle.sp_match.proofs.Turns.{at_is}
use Rattle.sp_match.proofs.machine.all_goals.Goals as goal

pub loop-i-init : goal.loop-i-init
loop-i-init c = subst (λ z. AreGoals c.args.net.now z 0) (sym c.new-goals.ensures.items) (goals_none c.args.net.now)

pub loop-i-preserved : goal.loop-i-preserved
loop-i-preserved c = c.in_ok-add_goal.ensures c.args.net.now (at_is c.args.net.now c.loop-i.i c.index-net-i.result (omega arith) c.index-net-i.is) c.loop-i.invariant
