use Rattle.sp_law_lists.proofs.known_literals_lemmas.Fit.{literals_fit}
use Rattle.sp_law_lists.proofs.known_literals.literals_are_in_range.Goals as goal

pub returns : goal.returns
returns c = literals_fit
