use Rattle.sp_law_programs.proofs.finished_units_lemmas.SameUnits.{units_are_the_same_at_more}
use Rattle.sp_law_programs.proofs.finished_units.units_are_the_same_at_more.Goals as goal

pub returns : goal.returns
returns c = units_are_the_same_at_more
