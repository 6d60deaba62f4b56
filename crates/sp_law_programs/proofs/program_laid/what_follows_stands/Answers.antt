use Rattle.sp_law_programs.proofs.program_laid_lemmas.Laid.{what_follows_stands}
use Rattle.sp_law_programs.proofs.program_laid.what_follows_stands.Goals as goal

pub returns : goal.returns
returns c = what_follows_stands
