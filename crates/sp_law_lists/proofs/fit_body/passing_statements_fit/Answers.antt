use Rattle.sp_law_lists.proofs.fit_body_lemmas.Sound.{stmt_sound}
use Rattle.sp_law_lists.proofs.fit_body.passing_statements_fit.Goals as goal

pub returns : goal.returns
returns c = λ body in_loop s passes. stmt_sound body in_loop s passes
