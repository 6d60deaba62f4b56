use Rattle.sp_law_printed_words.proofs.Lines.{tokens_in, lines_read}
use Rattle.sp_law_printed_words.proofs.laws.words_are_read.Goals as goal

pub returns : goal.returns
returns c = λ lines sound. (tokens_in 0 lines, lines_read lines sound)
