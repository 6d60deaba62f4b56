use Rattle.sp_type_answers.proofs.One.{one_types, one_values, one_stored}
use Rattle.sp_type_answers.proofs.laws.answers_are_one.Goals as goal

pub returns-clause-types : goal.returns-clause-types
returns-clause-types c = one_types

pub returns-clause-values : goal.returns-clause-values
returns-clause-values c = one_values

pub returns-clause-stored : goal.returns-clause-stored
returns-clause-stored c = one_stored c.tries_are_fair.ensures.fair
