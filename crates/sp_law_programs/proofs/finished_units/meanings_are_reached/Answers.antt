use Rattle.sp_law_programs.proofs.finished_units_lemmas.Meanings.{meanings_are_reached}
use Rattle.sp_law_programs.proofs.finished_units.meanings_are_reached.Goals as goal

pub returns : goal.returns
returns c = meanings_are_reached
