use Rattle.sp_solver.proofs.Rounds.{settled_is_one}
use Rattle.sp_solver.proofs.laws.settled_is_one.Goals as goal

pub returns : goal.returns
returns g c = settled_is_one (g.Q.Questions.tries c.args.q.now) (g.met.Q.Questions.fair c.args.q.now)
