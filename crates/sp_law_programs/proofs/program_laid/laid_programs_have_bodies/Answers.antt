use Rattle.sp_law_programs.proofs.program_laid_lemmas.Laid.{laid_programs_have_bodies}
use Rattle.sp_law_programs.proofs.program_laid.laid_programs_have_bodies.Goals as goal

pub returns : goal.returns
returns c = laid_programs_have_bodies
