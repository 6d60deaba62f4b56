use Rattle.sp_grammar.proofs.ActionNumbers.{action_there, number_there, no_action, no_number}
use Rattle.sp_grammar.proofs.actions.action_of.Goals as goal

pub returns-then-place-lt143-clause-named : goal.returns-then-place-lt143-clause-named
returns-then-place-lt143-clause-named c = action_there c.args.number _ c.if-place-lt143.true

pub returns-then-place-lt143-clause-some : goal.returns-then-place-lt143-clause-some
returns-then-place-lt143-clause-some c = number_there c.args.number _ c.if-place-lt143.true

pub returns-else-place-lt143-clause-named : goal.returns-else-place-lt143-clause-named
returns-else-place-lt143-clause-named c = no_action c.args.number c.if-place-lt143.false

pub returns-else-place-lt143-clause-none : goal.returns-else-place-lt143-clause-none
returns-else-place-lt143-clause-none c = no_number c.args.number c.if-place-lt143.false
