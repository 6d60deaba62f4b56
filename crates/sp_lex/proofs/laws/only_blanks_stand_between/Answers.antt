use Rattle.sp_lex.proofs.Spaced.{spaced_read}
use Rattle.sp_lex.proofs.laws.only_blanks_stand_between.Goals as goal

pub returns : goal.returns
returns c = λ text tokens lexed. spaced_read text tokens lexed.read
