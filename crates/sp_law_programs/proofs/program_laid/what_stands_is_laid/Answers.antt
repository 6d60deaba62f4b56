use Rattle.sp_law_programs.proofs.program_laid_lemmas.Laid.{what_stands_is_laid}
use Rattle.sp_law_programs.proofs.program_laid.what_stands_is_laid.Goals as goal

pub returns : goal.returns
returns c = what_stands_is_laid
