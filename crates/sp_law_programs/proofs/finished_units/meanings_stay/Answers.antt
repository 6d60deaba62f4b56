use Rattle.sp_law_programs.proofs.finished_units_lemmas.Meanings.{meanings_stay}
use Rattle.sp_law_programs.proofs.finished_units.meanings_stay.Goals as goal

pub returns : goal.returns
returns c = meanings_stay
