use Rattle.sp_law_programs.proofs.program_laid_lemmas.Laid.{laid_programs_are_sound}
use Rattle.sp_law_programs.proofs.program_laid.laid_programs_are_sound.Goals as goal

pub returns : goal.returns
returns c = laid_programs_are_sound
