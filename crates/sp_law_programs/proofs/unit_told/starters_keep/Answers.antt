use Rattle.sp_law_programs.proofs.unit_told_lemmas.Kept.{starters_keep}
use Rattle.sp_law_programs.proofs.unit_told.starters_keep.Goals as goal

pub returns : goal.returns
returns c = starters_keep
