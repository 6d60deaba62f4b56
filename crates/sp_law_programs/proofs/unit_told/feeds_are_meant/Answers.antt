use Rattle.sp_law_programs.proofs.unit_told_lemmas.Fronts.{feeds_are_meant}
use Rattle.sp_law_programs.proofs.unit_told.feeds_are_meant.Goals as goal

pub returns : goal.returns
returns c = feeds_are_meant
