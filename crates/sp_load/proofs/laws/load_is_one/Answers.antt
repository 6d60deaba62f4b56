use Rattle.sp_load.proofs.Loads.{one_load, one_load_refusal, loaded_or_refused}
use Rattle.sp_load.proofs.laws.load_is_one.Goals as goal

pub returns-clause-list : goal.returns-clause-list
returns-clause-list c = λ files names dirs first second x y. one_load files names dirs first second x y

pub returns-clause-refusal : goal.returns-clause-refusal
returns-clause-refusal c = λ files names dirs first second x y. one_load_refusal files names dirs first second x y

pub returns-clause-not_both : goal.returns-clause-not_both
returns-clause-not_both c = λ files names dirs list refusal x y. loaded_or_refused files names dirs list refusal x y
