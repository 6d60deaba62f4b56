use Rattle.sp_law_programs.proofs.program_laid_lemmas.Enters.{laid_hooks_enter}
use Rattle.sp_law_programs.proofs.program_laid.laid_hooks_enter.Goals as goal

pub returns : goal.returns
returns c = laid_hooks_enter
