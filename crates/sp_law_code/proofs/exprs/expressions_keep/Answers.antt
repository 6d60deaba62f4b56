use Rattle.sp_law_code.proofs.exprs_lemmas.KeptExprs.{expressions_keep}
use Rattle.sp_law_code.proofs.exprs.expressions_keep.Goals as goal

pub returns : goal.returns
returns c = expressions_keep
