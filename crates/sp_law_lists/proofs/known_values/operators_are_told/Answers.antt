use Rattle.sp_law_lists.proofs.known_values_lemmas.Operators.{told}
use Rattle.sp_law_lists.proofs.known_values.operators_are_told.Goals as goal

pub returns : goal.returns
returns c = told
