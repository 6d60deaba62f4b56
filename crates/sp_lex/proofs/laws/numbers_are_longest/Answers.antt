use Rattle.sp_lex.proofs.WordTexts.{numbers_longest}
use Rattle.sp_lex.proofs.laws.numbers_are_longest.Goals as goal

pub returns : goal.returns
returns c = numbers_longest
