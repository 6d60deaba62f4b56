use Rattle.sp_law_lists.proofs.known_literals_lemmas.Widening.{typed_is}
use Rattle.sp_law_lists.proofs.known_literals.typing_widens_values.Goals as goal

pub returns : goal.returns
returns c = λ g t known. typed_is g known t
