use Rattle.sp_law_printed_words.specs.Sound.{HasNoZero, IsSound}
use Rattle.sp_law_printed_words.proofs.Trees.{module_holds}
use Rattle.sp_law_printed_words.proofs.laws.words_of_a_module_are_sound.Goals as goal

pub returns-clause-sound : goal.returns-clause-sound
returns-clause-sound c = module_holds IsSound (λ kind is. is)

pub returns-clause-no_zero : goal.returns-clause-no_zero
returns-clause-no_zero c = module_holds HasNoZero (λ kind is. tt)
