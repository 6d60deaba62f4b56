use Rattle.sp_driver.proofs.One.{one_answer}
use Rattle.sp_driver.proofs.laws.answer_is_one.Goals as goal

pub returns : goal.returns
returns c = λ words files input first second is so.
    one_answer c.load_is_one.ensures.list c.load_is_one.ensures.refusal c.load_is_one.ensures.not_both c.answers_are_one.ensures.types c.answers_are_one.ensures.values c.answers_are_one.ensures.stored words files input first second is so
