use Rattle.sp_match.proofs.OneVerdict.{steady}
use Rattle.sp_match.proofs.laws.steady_verdict.Goals as goal

pub returns : goal.returns
returns c = steady
