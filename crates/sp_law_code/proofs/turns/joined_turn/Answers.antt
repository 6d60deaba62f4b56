use Rattle.sp_law_code.proofs.turns_lemmas.Programs.{joined_turn}
use Rattle.sp_law_code.proofs.turns.joined_turn.Goals as goal

pub returns : goal.returns
returns c = joined_turn
