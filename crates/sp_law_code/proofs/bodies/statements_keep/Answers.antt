use Rattle.sp_law_code.proofs.bodies_lemmas.KeptStmts.{statements_keep}
use Rattle.sp_law_code.proofs.bodies.statements_keep.Goals as goal

pub returns : goal.returns
returns c = statements_keep
