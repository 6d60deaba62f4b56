use Rattle.sp_law_programs.proofs.whole_program_lemmas.Fitting.{fitting_programs_start}
use Rattle.sp_law_programs.proofs.whole_program.fitting_programs_start.Goals as goal

pub returns : goal.returns
returns c = fitting_programs_start
