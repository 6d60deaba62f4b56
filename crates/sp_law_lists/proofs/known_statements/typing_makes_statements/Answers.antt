use Rattle.sp_law_lists.proofs.known_statements_lemmas.Typing.{body_is_ready}
use Rattle.sp_law_lists.proofs.known_statements.typing_makes_statements.Goals as goal

pub returns : goal.returns
returns c = λ body g b slots t made wide have built. body_is_ready body g made wide b slots t have built
