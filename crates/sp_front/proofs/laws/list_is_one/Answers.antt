use Rattle.sp_front.proofs.Single.{one_list, one_list_refusal, list_or_refusal, one_asking}
use Rattle.sp_front.proofs.laws.list_is_one.Goals as goal

pub returns-clause-list : goal.returns-clause-list
returns-clause-list c = λ files names dirs first second x y. one_list files names dirs first second x y

pub returns-clause-refusal : goal.returns-clause-refusal
returns-clause-refusal c = λ files names dirs first second x y. one_list_refusal files names dirs first second x y

pub returns-clause-not_both : goal.returns-clause-not_both
returns-clause-not_both c = λ files names dirs list refusal x y. list_or_refusal files names dirs list refusal x y

pub returns-clause-asked : goal.returns-clause-asked
returns-clause-asked c = λ files names dirs first second x y. one_asking files names dirs first second x y
