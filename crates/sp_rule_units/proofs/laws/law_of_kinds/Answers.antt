use Rattle.sp_rule_units.proofs.KindsTyped.{of_counted}
use Rattle.sp_rule_units.proofs.laws.law_of_kinds.Goals as goal

pub returns : goal.returns
returns c = of_counted
