use Rattle.sp_match.specs.Tables.{AreGoals}
use Rattle.sp_match.proofs.machine.all_goals.Given as goal

abbrev pub invariant-loop-i : goal.invariant-loop-i
invariant-loop-i l = AreGoals l.net l.goals.items l.i
