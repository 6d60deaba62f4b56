use Rattle.sp_law_programs.proofs.unit_told_lemmas.Stops.{runs_go_on}
use Rattle.sp_law_programs.proofs.unit_told.runs_go_on.Goals as goal

pub returns : goal.returns
returns c = runs_go_on
