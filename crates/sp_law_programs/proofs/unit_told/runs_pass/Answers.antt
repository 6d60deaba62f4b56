use Rattle.sp_law_programs.proofs.unit_told_lemmas.Stops.{runs_pass}
use Rattle.sp_law_programs.proofs.unit_told.runs_pass.Goals as goal

pub returns : goal.returns
returns c = runs_pass
