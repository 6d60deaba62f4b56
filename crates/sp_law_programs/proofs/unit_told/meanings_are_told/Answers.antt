use Rattle.sp_law_programs.proofs.unit_told_lemmas.Units.{meanings_are_told}
use Rattle.sp_law_programs.proofs.unit_told.meanings_are_told.Goals as goal

pub returns : goal.returns
returns c = meanings_are_told
