use Rattle.sp_law_code.proofs.turns_lemmas.Programs.{programs_turn}
use Rattle.sp_law_code.proofs.turns.programs_turn.Goals as goal

pub returns : goal.returns
returns c = programs_turn
