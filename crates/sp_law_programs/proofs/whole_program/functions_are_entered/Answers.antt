use Rattle.sp_law_programs.proofs.whole_program_lemmas.Programs.{functions_are_entered}
use Rattle.sp_law_programs.proofs.whole_program.functions_are_entered.Goals as goal

pub returns : goal.returns
returns c = functions_are_entered
