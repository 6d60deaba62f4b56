use Rattle.sp_law_programs.proofs.finished_units_lemmas.Meanings.{meanings_end}
use Rattle.sp_law_programs.proofs.finished_units.meanings_end.Goals as goal

pub returns : goal.returns
returns c = meanings_end
