use Rattle.sp_law_code.proofs.turns_lemmas.Programs.{pieces_turn}
use Rattle.sp_law_code.proofs.turns.pieces_turn.Goals as goal

pub returns : goal.returns
returns c = pieces_turn
