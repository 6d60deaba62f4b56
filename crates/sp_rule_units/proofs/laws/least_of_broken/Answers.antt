use Rattle.sp_rule_units.proofs.Broken.{least_in}
use Rattle.sp_rule_units.proofs.laws.least_of_broken.Goals as goal

pub returns : goal.returns
returns c = least_in
