use Rattle.sp_law_lists.proofs.known_constants_lemmas.Fine.{type_fine}
use Rattle.sp_law_lists.proofs.known_constants.written_types_are_types.Goals as goal

pub returns : goal.returns
returns c = type_fine
