use Rattle.sp_law_printed_words.proofs.Worth.{word_worth}
use Rattle.sp_law_printed_words.proofs.laws.words_keep_their_worth.Goals as goal

pub returns : goal.returns
returns c = word_worth
