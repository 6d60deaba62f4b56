use Rattle.sp_law_programs.proofs.list_runs_lemmas.Runs.{units_are_runnable}
use Rattle.sp_law_programs.proofs.list_runs.units_are_runnable.Goals as goal

pub returns : goal.returns
returns c = units_are_runnable
