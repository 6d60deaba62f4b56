use Rattle.sp_rule_bodies.proofs.Broken.{least_in, least_in_body}
use Rattle.sp_rule_bodies.proofs.laws.least_of_broken.Goals as goal

pub returns-clause-exprs : goal.returns-clause-exprs
returns-clause-exprs c = least_in

pub returns-clause-bodies : goal.returns-clause-bodies
returns-clause-bodies c = least_in_body
