use Rattle.sp_law_programs.proofs.whole_program_lemmas.Programs.{starters_are_last}
use Rattle.sp_law_programs.proofs.whole_program.starters_are_last.Goals as goal

pub returns : goal.returns
returns c = starters_are_last
