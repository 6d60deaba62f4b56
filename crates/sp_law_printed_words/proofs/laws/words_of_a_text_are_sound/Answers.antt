use Rattle.sp_law_printed_words.proofs.Told.{told_no_zero, told_sound}
use Rattle.sp_law_printed_words.proofs.laws.words_of_a_text_are_sound.Goals as goal

pub returns-clause-sound : goal.returns-clause-sound
returns-clause-sound c = told_sound

pub returns-clause-no_zero : goal.returns-clause-no_zero
returns-clause-no_zero c = told_no_zero
