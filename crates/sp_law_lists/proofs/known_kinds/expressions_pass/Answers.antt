use Rattle.sp_law_lists.proofs.known_kinds_lemmas.Operations.{joined, passes}
use Rattle.sp_law_lists.proofs.known_kinds.expressions_pass.Goals as goal

pub returns : goal.returns
returns c = λ around k m e asked offset built made clear right widened owners within valued.
    passes around k m asked offset e (joined around k m e built made clear right widened owners) within valued
