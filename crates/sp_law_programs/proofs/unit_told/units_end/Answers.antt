use Rattle.sp_law_programs.proofs.unit_told_lemmas.Units.{units_end}
use Rattle.sp_law_programs.proofs.unit_told.units_end.Goals as goal

pub returns : goal.returns
returns c = units_end
