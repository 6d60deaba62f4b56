use Rattle.sp_law_code.proofs.turns_lemmas.Falls.{statements_fall}
use Rattle.sp_law_code.proofs.turns.statements_fall.Goals as goal

pub returns : goal.returns
returns c = statements_fall
