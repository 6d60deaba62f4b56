use Rattle.sp_law_programs.proofs.program_laid_lemmas.Turning.{laid_programs_turn}
use Rattle.sp_law_programs.proofs.program_laid.laid_programs_turn.Goals as goal

pub returns : goal.returns
returns c = laid_programs_turn
