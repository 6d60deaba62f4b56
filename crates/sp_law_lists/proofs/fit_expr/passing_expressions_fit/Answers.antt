use Rattle.sp_law_lists.proofs.fit_expr_lemmas.Sound.{expr_sound, exprs_sound}
use Rattle.sp_law_lists.proofs.fit_expr.passing_expressions_fit.Goals as goal

pub returns-clause-one : goal.returns-clause-one
returns-clause-one c = λ around e passes. expr_sound around e passes

pub returns-clause-several : goal.returns-clause-several
returns-clause-several c = λ around es pass. exprs_sound around es pass
