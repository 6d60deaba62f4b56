use Rattle.sp_law_programs.proofs.list_runs_lemmas.Runs.{runnable_units_run}
use Rattle.sp_law_programs.proofs.list_runs.runnable_units_run.Goals as goal

pub returns : goal.returns
returns c = runnable_units_run
