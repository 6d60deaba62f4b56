use Rattle.std.proofs.Common.{ap, sym, ◌∙◌}
use Rattle.sp_match.specs.Sets.{has}
use Rattle.sp_match.proofs.Lists.{had_already, pushed}
use Rattle.sp_match.proofs.sets.put.Goals as goal

pub returns-then-contains : goal.returns-then-contains
returns-then-contains c = λ p. had_already c.args.set.now.items c.args.spot p (ap (λ z. has z c.args.spot) (sym c.deref.ensures.value) ∙ sym c.contains.ensures ∙ c.if-contains.true)

pub returns : goal.returns
returns c = λ p. ap (λ z. has z p) c.in_ok-push.ensures.items ∙ pushed c.args.set.now.items c.args.spot p
