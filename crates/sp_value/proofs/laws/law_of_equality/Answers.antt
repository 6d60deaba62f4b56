use Rattle.sp_value.proofs.Equals.{equal_is_alike}
use Rattle.sp_value.proofs.laws.law_of_equality.Goals as goal

pub returns : goal.returns
returns c = equal_is_alike
