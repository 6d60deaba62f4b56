use Rattle.sp_lex.proofs.WordTexts.{words_longest}
use Rattle.sp_lex.proofs.laws.words_are_longest.Goals as goal

pub returns : goal.returns
returns c = words_longest
