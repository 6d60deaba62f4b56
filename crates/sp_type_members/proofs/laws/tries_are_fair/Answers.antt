use Rattle.sp_type_members.specs.inside.Laws.{is_fair, is_inside}
use Rattle.sp_type_members.proofs.laws.tries_are_fair.Goals as goal

pub returns-clause-fair : goal.returns-clause-fair
returns-clause-fair c = λ list contexts v. is_fair list contexts v

pub returns-clause-inside : goal.returns-clause-inside
returns-clause-inside c = λ list contexts v f i j lt e. is_inside list contexts v f i j lt e
