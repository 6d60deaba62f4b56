use Rattle.sp_law_machine.proofs.keeps_lemmas.Kept.{steps_keep}
use Rattle.sp_law_machine.proofs.keeps.steps_keep.Goals as goal

pub returns : goal.returns
returns c = steps_keep
