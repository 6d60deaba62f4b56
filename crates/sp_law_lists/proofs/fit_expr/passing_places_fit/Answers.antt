use Rattle.sp_law_lists.proofs.fit_expr_lemmas.Sound.{place_sound}
use Rattle.sp_law_lists.proofs.fit_expr.passing_places_fit.Goals as goal

pub returns : goal.returns
returns c = λ around owner e passes. place_sound around owner e passes
