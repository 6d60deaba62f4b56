use Rattle.sp_law_programs.proofs.finished_units_lemmas.Meanings.{fuels_agree}
use Rattle.sp_law_programs.proofs.finished_units.fuels_agree.Goals as goal

pub returns : goal.returns
returns c = fuels_agree
