use Rattle.sp_match.proofs.OneVerdict.{one_verdict_is}
use Rattle.sp_match.proofs.laws.one_verdict.Goals as goal

pub returns : goal.returns
returns c = one_verdict_is
