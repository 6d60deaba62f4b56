use Rattle.sp_law_machine.proofs.ends_lemmas.Heights.{heights_fall}
use Rattle.sp_law_machine.proofs.ends.heights_fall.Goals as goal

pub returns : goal.returns
returns c = heights_fall
