use Rattle.sp_law_lists.proofs.known_bodies_lemmas.Slots.{kept_plain}
use Rattle.sp_law_lists.proofs.known_bodies.kept_is_plain.Goals as goal

pub returns : goal.returns
returns c = kept_plain
