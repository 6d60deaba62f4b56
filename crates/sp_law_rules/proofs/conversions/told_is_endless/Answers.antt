use Rattle.sp_law_rules.proofs.ToldFields.{told_are_endless, endless_are_told}
use Rattle.sp_law_rules.proofs.conversions.told_is_endless.Goals as goal

pub returns-clause-told : goal.returns-clause-told
returns-clause-told c = told_are_endless

pub returns-clause-all : goal.returns-clause-all
returns-clause-all c = endless_are_told
