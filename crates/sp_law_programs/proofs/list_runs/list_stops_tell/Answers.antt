use Rattle.sp_law_programs.proofs.list_runs_lemmas.Runs.{list_stops_tell}
use Rattle.sp_law_programs.proofs.list_runs.list_stops_tell.Goals as goal

pub returns : goal.returns
returns c = list_stops_tell
