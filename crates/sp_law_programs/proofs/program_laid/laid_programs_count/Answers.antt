use Rattle.sp_law_programs.proofs.program_laid_lemmas.Counted.{laid_programs_count}
use Rattle.sp_law_programs.proofs.program_laid.laid_programs_count.Goals as goal

pub returns : goal.returns
returns c = laid_programs_count
