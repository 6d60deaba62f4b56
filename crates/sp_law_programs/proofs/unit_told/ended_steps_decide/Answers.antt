use Rattle.sp_law_programs.proofs.unit_told_lemmas.Ended.{ended_steps_decide}
use Rattle.sp_law_programs.proofs.unit_told.ended_steps_decide.Goals as goal

pub returns : goal.returns
returns c = ended_steps_decide
