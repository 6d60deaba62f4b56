use Rattle.sp_law_programs.proofs.unit_told_lemmas.Fronts.{told_stays}
use Rattle.sp_law_programs.proofs.unit_told.told_stays.Goals as goal

pub returns : goal.returns
returns c = told_stays
