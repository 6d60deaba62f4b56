use Rattle.sp_meaning.specs.Globals.{globals_of}
use Rattle.sp_law_lists.proofs.fit_expr_lemmas.OfValues.{constants_fit}
use Rattle.sp_law_lists.proofs.fit_expr.passing_constants_fit.Goals as goal

pub returns : goal.returns
returns c = λ list pass n x v at is units. constants_fit (globals_of list).ranges units list.constants n x v pass at is
