use Rattle.std.proofs.Common.{inr}
use Rattle.sp_match.proofs.matcher.Matcher.waits.Goals as goal

pub returns-clause-waits : goal.returns-clause-waits
returns-clause-waits c = λ e tokens w h. (c.if-ended.false, c.reads_on.ensures.some e tokens w h)

pub returns-clause-settled : goal.returns-clause-settled
returns-clause-settled c = λ e tokens w h. inr (c.reads_on.ensures.none e tokens w h)
