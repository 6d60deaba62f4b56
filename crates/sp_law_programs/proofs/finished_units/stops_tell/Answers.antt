use Rattle.sp_law_programs.proofs.finished_units_lemmas.Meanings.{stops_tell}
use Rattle.sp_law_programs.proofs.finished_units.stops_tell.Goals as goal

pub returns : goal.returns
returns c = stops_tell
