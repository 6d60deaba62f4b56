use Rattle.sp_rules.proofs.Least.{checked_is_least}
use Rattle.sp_rules.proofs.laws.least_of_checked.Goals as goal

pub returns : goal.returns
returns c = checked_is_least
