use Rattle.sp_law_programs.proofs.whole_program_lemmas.Fitting.{fitting_programs_are_sound}
use Rattle.sp_law_programs.proofs.whole_program.fitting_programs_are_sound.Goals as goal

pub returns : goal.returns
returns c = fitting_programs_are_sound
