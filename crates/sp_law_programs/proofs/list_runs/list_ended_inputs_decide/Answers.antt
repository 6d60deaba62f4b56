use Rattle.sp_law_programs.proofs.list_runs_lemmas.Runs.{list_ended_inputs_decide}
use Rattle.sp_law_programs.proofs.list_runs.list_ended_inputs_decide.Goals as goal

pub returns : goal.returns
returns c = list_ended_inputs_decide
