use Rattle.sp_law_code.proofs.turns_lemmas.Kept.{fitting_keeps_to_loops}
use Rattle.sp_law_code.proofs.turns.fitting_keeps_to_loops.Goals as goal

pub returns : goal.returns
returns c = fitting_keeps_to_loops
