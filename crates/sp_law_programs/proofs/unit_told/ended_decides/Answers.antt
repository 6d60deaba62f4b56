use Rattle.sp_law_programs.proofs.unit_told_lemmas.Ended.{ended_decides}
use Rattle.sp_law_programs.proofs.unit_told.ended_decides.Goals as goal

pub returns : goal.returns
returns c = ended_decides
