use Rattle.sp_dependencies.proofs.Chains.{none_is_endless, endless_has_none}
use Rattle.sp_dependencies.proofs.laws.none_is_endless.Goals as goal

pub returns-clause-none : goal.returns-clause-none
returns-clause-none g c = none_is_endless (g.Q.Dependent.amount c.args.q.now) (g.Q.Dependent.needs c.args.q.now) (g.Q.Dependent.gives c.args.q.now) (g.met.Q.Dependent.hangs c.args.q.now) (g.met.Q.Dependent.in_range c.args.q.now)

pub returns-clause-endless : goal.returns-clause-endless
returns-clause-endless g c = endless_has_none (g.Q.Dependent.amount c.args.q.now) (g.Q.Dependent.needs c.args.q.now) (g.Q.Dependent.gives c.args.q.now) (g.met.Q.Dependent.hangs c.args.q.now) (g.met.Q.Dependent.in_range c.args.q.now)
