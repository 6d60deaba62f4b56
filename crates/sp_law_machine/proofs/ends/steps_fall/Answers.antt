use Rattle.sp_law_machine.proofs.ends_lemmas.Falls.{steps_fall}
use Rattle.sp_law_machine.proofs.ends.steps_fall.Goals as goal

pub returns : goal.returns
returns c = steps_fall
