use Rattle.sp_types.proofs.Same.{same_is, same_itself}
use Rattle.sp_types.proofs.laws.same_is_equal.Goals as goal

pub returns-clause-equal : goal.returns-clause-equal
returns-clause-equal c = same_is

pub returns-clause-itself : goal.returns-clause-itself
returns-clause-itself c = same_itself
