use Rattle.sp_law_programs.proofs.list_runs_lemmas.Entered.{functions_fit_as_called}
use Rattle.sp_law_programs.proofs.list_runs.functions_fit_as_called.Goals as goal

pub returns : goal.returns
returns c = functions_fit_as_called
