use Rattle.sp_law_constants.proofs.Means.{values_are_meant, errors_are_meant}
use Rattle.sp_law_constants.proofs.constants.constants_are_meant.Goals as goal

pub returns-clause-values : goal.returns-clause-values
returns-clause-values c = values_are_meant

pub returns-clause-errors : goal.returns-clause-errors
returns-clause-errors c = errors_are_meant
