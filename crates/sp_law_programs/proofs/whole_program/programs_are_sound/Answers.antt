use Rattle.sp_law_programs.proofs.whole_program_lemmas.Programs.{programs_are_sound}
use Rattle.sp_law_programs.proofs.whole_program.programs_are_sound.Goals as goal

pub returns : goal.returns
returns c = programs_are_sound
