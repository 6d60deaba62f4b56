use Rattle.sp_lex.proofs.WordTexts.{names_unreserved}
use Rattle.sp_lex.proofs.laws.names_are_not_reserved.Goals as goal

pub returns : goal.returns
returns c = names_unreserved
