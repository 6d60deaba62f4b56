use Rattle.sp_law_machine.proofs.continues_lemmas.Steps.{runs_continue}
use Rattle.sp_law_machine.proofs.continues.runs_continue.Goals as goal

pub returns : goal.returns
returns c = runs_continue
