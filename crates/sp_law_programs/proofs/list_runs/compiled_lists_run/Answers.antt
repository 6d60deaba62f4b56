use Rattle.sp_law_programs.proofs.list_runs_lemmas.Runs.{compiled_lists_run}
use Rattle.sp_law_programs.proofs.list_runs.compiled_lists_run.Goals as goal

pub returns : goal.returns
returns c = compiled_lists_run
