use Rattle.sp_law_programs.proofs.finished_units_lemmas.RightUnits.{units_are_finished}
use Rattle.sp_law_programs.proofs.finished_units.units_are_finished.Goals as goal

pub returns : goal.returns
returns c = units_are_finished
