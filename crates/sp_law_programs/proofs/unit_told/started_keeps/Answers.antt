use Rattle.sp_law_programs.proofs.unit_told_lemmas.Kept.{started_keeps}
use Rattle.sp_law_programs.proofs.unit_told.started_keeps.Goals as goal

pub returns : goal.returns
returns c = started_keeps
