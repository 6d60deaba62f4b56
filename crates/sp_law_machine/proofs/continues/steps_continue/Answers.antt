use Rattle.sp_law_machine.proofs.continues_lemmas.Steps.{steps_continue}
use Rattle.sp_law_machine.proofs.continues.steps_continue.Goals as goal

pub returns : goal.returns
returns c = steps_continue
