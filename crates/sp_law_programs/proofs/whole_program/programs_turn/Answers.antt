use Rattle.sp_law_programs.proofs.whole_program_lemmas.Programs.{programs_turn}
use Rattle.sp_law_programs.proofs.whole_program.programs_turn.Goals as goal

pub returns : goal.returns
returns c = programs_turn
