use Rattle.sp_law_programs.proofs.program_laid_lemmas.Turning.{fitting_bodies_keep_to_loops}
use Rattle.sp_law_programs.proofs.program_laid.fitting_bodies_keep_to_loops.Goals as goal

pub returns : goal.returns
returns c = fitting_bodies_keep_to_loops
