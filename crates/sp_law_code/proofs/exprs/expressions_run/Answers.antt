use Rattle.sp_law_code.proofs.exprs_lemmas.Exprs.{expressions_run}
use Rattle.sp_law_code.proofs.exprs.expressions_run.Goals as goal

pub returns : goal.returns
returns c = expressions_run
