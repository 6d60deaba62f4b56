use Rattle.sp_law_rules.proofs.Rounds.{answered}
use Rattle.sp_law_rules.proofs.answers.answers_are_there.Goals as goal

pub returns : goal.returns
returns c = answered c.tries_are_fair.ensures.fair
