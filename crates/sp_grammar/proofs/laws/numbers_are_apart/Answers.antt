use Rattle.sp_grammar.proofs.Numbers.{terminals_apart, actions_apart, parts_apart, own_alternatives}
use Rattle.sp_grammar.proofs.laws.numbers_are_apart.Goals as goal

pub returns-clause-tokens : goal.returns-clause-tokens
returns-clause-tokens c = terminals_apart

pub returns-clause-actions : goal.returns-clause-actions
returns-clause-actions c = actions_apart

pub returns-clause-parts : goal.returns-clause-parts
returns-clause-parts c = parts_apart

pub returns-clause-at_their_numbers : goal.returns-clause-at_their_numbers
returns-clause-at_their_numbers c = own_alternatives
