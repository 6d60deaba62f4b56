use Rattle.std.proofs.Common.{◌∙◌, sym}
use Rattle.sp_match.proofs.Stepping.{goals_same}
use Rattle.sp_match.proofs.machine.add_goal.Goals as goal

pub returns-in-None : goal.returns-in-None
returns-in-None c = λ net here are. goals_same net c.args.goals.now.items c.args.number c.args.spot.now here (sym c.goal_of.ensures ∙ c.in-None.is) are
