use Rattle.sp_law_programs.proofs.list_runs_lemmas.Runs.{programs_run}
use Rattle.sp_law_programs.proofs.list_runs.programs_run.Goals as goal

pub returns : goal.returns
returns c = programs_run
