use Rattle.sp_spicyc.proofs.Single.{one_answer}
use Rattle.sp_spicyc.proofs.laws.answer_is_one.Goals as goal

pub returns : goal.returns
returns c = λ words files first second a b. one_answer words files first second a b
