use Rattle.sp_law_machine.proofs.keeps_lemmas.Kept.{instructions_can}
use Rattle.sp_law_machine.proofs.keeps.instructions_can.Goals as goal

pub returns : goal.returns
returns c = instructions_can
