use Rattle.sp_law_code.proofs.bodies_lemmas.Calls.{functions_run}
use Rattle.sp_law_code.proofs.bodies.functions_run.Goals as goal

pub returns : goal.returns
returns c = functions_run
