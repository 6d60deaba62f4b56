use Rattle.sp_law_rules.proofs.EndlessFields.{conversions_are_endless, endless_are_found}
use Rattle.sp_law_rules.proofs.conversions.conversions_are_endless.Goals as goal

pub returns-clause-found : goal.returns-clause-found
returns-clause-found c = conversions_are_endless

pub returns-clause-endless : goal.returns-clause-endless
returns-clause-endless c = endless_are_found
