use Rattle.sp_law_programs.proofs.whole_program_lemmas.Tables.{currents_are_listed}
use Rattle.sp_law_programs.proofs.whole_program.currents_are_listed.Goals as goal

pub returns : goal.returns
returns c = currents_are_listed
