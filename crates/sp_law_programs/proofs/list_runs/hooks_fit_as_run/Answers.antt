use Rattle.sp_law_programs.proofs.list_runs_lemmas.Entered.{hooks_fit_as_run}
use Rattle.sp_law_programs.proofs.list_runs.hooks_fit_as_run.Goals as goal

pub returns : goal.returns
returns c = hooks_fit_as_run
