use Rattle.sp_solver.proofs.Rounds.{settled_none}
use Rattle.sp_solver.proofs.laws.no_round_answers.Goals as goal

pub returns : goal.returns
returns g c = settled_none (g.Q.Questions.tries c.args.q.now) (g.met.Q.Questions.fair c.args.q.now)
