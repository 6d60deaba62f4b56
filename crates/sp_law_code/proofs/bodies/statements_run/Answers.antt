use Rattle.sp_law_code.proofs.bodies_lemmas.Stmts.{statements_run}
use Rattle.sp_law_code.proofs.bodies.statements_run.Goals as goal

pub returns : goal.returns
returns c = statements_run
