use Rattle.sp_grammar.proofs.OwnWords.{read_one_way}
use Rattle.sp_grammar.proofs.laws.grammar_is_unambiguous.Goals as goal

pub returns : goal.returns
returns c = read_one_way
