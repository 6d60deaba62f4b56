use Rattle.sp_law_machine.proofs.continues_lemmas.Windows.{windows_serve}
use Rattle.sp_law_machine.proofs.continues.windows_serve.Goals as goal

pub returns : goal.returns
returns c = windows_serve
