use Rattle.sp_law_programs.proofs.unit_told_lemmas.Units.{stops_are_meant}
use Rattle.sp_law_programs.proofs.unit_told.stops_are_meant.Goals as goal

pub returns : goal.returns
returns c = stops_are_meant
