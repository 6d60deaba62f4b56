use Rattle.sp_law_programs.proofs.list_runs_lemmas.Runs.{units_take_none}
use Rattle.sp_law_programs.proofs.list_runs.units_take_none.Goals as goal

pub returns : goal.returns
returns c = units_take_none
