use Rattle.sp_lex.proofs.Faultless.{has_tokens}
use Rattle.sp_lex.proofs.laws.faultless_texts_have_tokens.Goals as goal

pub returns : goal.returns
returns c = λ text faultless. has_tokens text faultless
