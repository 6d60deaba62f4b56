use Rattle.std.proofs.Common.{sym, subst}
use Rattle.sp_lex.proofs.Spelled.{IsSpelled, signs_spelled}
use Rattle.sp_lex.proofs.signs.longest_sign.Goals as goal

pub returns-clause-some : goal.returns-clause-some
returns-clause-some c = subst IsSpelled (sym c.longest_of.ensures.value) (signs_spelled c.args.text.now)
