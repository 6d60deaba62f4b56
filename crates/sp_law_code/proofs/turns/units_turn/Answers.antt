use Rattle.sp_law_code.proofs.turns_lemmas.Units.{units_turn}
use Rattle.sp_law_code.proofs.turns.units_turn.Goals as goal

pub returns : goal.returns
returns c = units_turn
