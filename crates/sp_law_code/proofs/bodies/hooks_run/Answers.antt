use Rattle.sp_law_code.proofs.bodies_lemmas.Hooks.{hooks_run}
use Rattle.sp_law_code.proofs.bodies.hooks_run.Goals as goal

pub returns : goal.returns
returns c = hooks_run
