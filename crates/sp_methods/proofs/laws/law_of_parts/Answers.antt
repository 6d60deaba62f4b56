use Rattle.sp_methods.proofs.Found.{parts_at_the_first, parts_without_any}
use Rattle.sp_methods.proofs.laws.law_of_parts.Goals as goal

pub returns-clause-first : goal.returns-clause-first
returns-clause-first c = parts_at_the_first

pub returns-clause-none : goal.returns-clause-none
returns-clause-none c = parts_without_any
