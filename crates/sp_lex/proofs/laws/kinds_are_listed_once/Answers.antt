use Rattle.sp_lex.proofs.Listed.{listed_once}
use Rattle.sp_lex.proofs.laws.kinds_are_listed_once.Goals as goal

pub returns-clause-once : goal.returns-clause-once
returns-clause-once c = listed_once
