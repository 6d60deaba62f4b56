use Rattle.sp_law_printed_words.specs.Sound.{HasNoZero, IsSound}
use Rattle.sp_law_printed_words.proofs.Told.{told_no_zero, told_sound}
use Rattle.sp_law_printed_words.proofs.Trees.{module_holds}
use Rattle.sp_law_round_trip.proofs.Tells.{module_tells}
use Rattle.sp_law_round_trip.proofs.laws.words_of_a_read_module_are_sound.Goals as goal

pub returns-clause-sound : goal.returns-clause-sound
returns-clause-sound c = λ lexed m is read. module_holds IsSound (λ kind fixed. fixed) m (module_tells IsSound (λ kind fixed. fixed) lexed m (told_sound lexed.text lexed.list is) read)

pub returns-clause-no_zero : goal.returns-clause-no_zero
returns-clause-no_zero c = λ lexed m is read. module_holds HasNoZero (λ kind fixed. tt) m (module_tells HasNoZero (λ kind fixed. tt) lexed m (told_no_zero lexed.text lexed.list is) read)
