use Rattle.sp_law_code.proofs.turns_lemmas.Programs.{bodies_turn}
use Rattle.sp_law_code.proofs.turns.bodies_turn.Goals as goal

pub returns : goal.returns
returns c = bodies_turn
