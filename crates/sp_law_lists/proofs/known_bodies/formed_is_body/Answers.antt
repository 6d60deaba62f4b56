use Rattle.sp_law_lists.proofs.known_bodies_lemmas.Formed.{formed_body}
use Rattle.sp_law_lists.proofs.known_bodies.formed_is_body.Goals as goal

pub returns : goal.returns
returns c = formed_body
