use Rattle.sp_law_machine.proofs.continues_lemmas.Questions.{reads_continue}
use Rattle.sp_law_machine.proofs.continues.reads_continue.Goals as goal

pub returns : goal.returns
returns c = reads_continue
