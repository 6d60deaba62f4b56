use Rattle.sp_law_code.proofs.bodies_lemmas.KeptStmts.{bodies_keep}
use Rattle.sp_law_code.proofs.bodies.bodies_keep.Goals as goal

pub returns : goal.returns
returns c = bodies_keep
