use Rattle.sp_law_lists.proofs.known_kinds_lemmas.Making.{typed_made}
use Rattle.sp_law_lists.proofs.known_kinds.typing_makes_kinds.Goals as goal

pub returns : goal.returns
returns c = λ around g t made. typed_made around g made t
