use Rattle.sp_law_programs.proofs.whole_program_lemmas.Fitting.{compiled_lists_are_sound}
use Rattle.sp_law_programs.proofs.whole_program.compiled_lists_are_sound.Goals as goal

pub returns : goal.returns
returns c = compiled_lists_are_sound
