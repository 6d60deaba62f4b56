use Rattle.sp_law_programs.proofs.whole_program_lemmas.Programs.{what_stands_is_the_program}
use Rattle.sp_law_programs.proofs.whole_program.what_stands_is_the_program.Goals as goal

pub returns : goal.returns
returns c = what_stands_is_the_program
