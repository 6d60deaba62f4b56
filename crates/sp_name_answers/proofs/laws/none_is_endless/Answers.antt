use Rattle.sp_name_answers.proofs.Chains.{none_is_endless, endless_has_none}
use Rattle.sp_name_answers.proofs.laws.none_is_endless.Goals as goal

pub returns-clause-none : goal.returns-clause-none
returns-clause-none c = none_is_endless

pub returns-clause-endless : goal.returns-clause-endless
returns-clause-endless c = endless_has_none
