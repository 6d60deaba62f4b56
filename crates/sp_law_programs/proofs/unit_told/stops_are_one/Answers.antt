use Rattle.sp_law_programs.proofs.unit_told_lemmas.Stops.{stops_are_one}
use Rattle.sp_law_programs.proofs.unit_told.stops_are_one.Goals as goal

pub returns : goal.returns
returns c = stops_are_one
