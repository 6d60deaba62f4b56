use Rattle.sp_law_printed_words.proofs.Placed.{module_placed}
use Rattle.sp_law_printed_words.proofs.laws.words_of_a_module_are_placed.Goals as goal

pub returns : goal.returns
returns c = λ m tells formed. module_placed m tells formed
