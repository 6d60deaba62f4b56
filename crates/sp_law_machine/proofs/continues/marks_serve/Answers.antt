use Rattle.sp_law_machine.proofs.continues_lemmas.Marks.{marks_serve}
use Rattle.sp_law_machine.proofs.continues.marks_serve.Goals as goal

pub returns : goal.returns
returns c = marks_serve
