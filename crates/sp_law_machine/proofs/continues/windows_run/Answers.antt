use Rattle.sp_law_machine.proofs.continues_lemmas.Marks.{windows_run}
use Rattle.sp_law_machine.proofs.continues.windows_run.Goals as goal

pub returns : goal.returns
returns c = windows_run
