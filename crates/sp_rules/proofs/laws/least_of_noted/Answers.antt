use Rattle.sp_rules.proofs.Least.{noted_is_least}
use Rattle.sp_rules.proofs.laws.least_of_noted.Goals as goal

pub returns : goal.returns
returns c = noted_is_least
