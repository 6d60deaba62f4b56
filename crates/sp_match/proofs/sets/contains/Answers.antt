use Rattle.std.proofs.Common.{sym, ◌∙◌}
use Rattle.sp_match.proofs.Lists.{missed, has_at, has_all}
use Rattle.sp_match.proofs.sets.contains.Goals as goal

pub loop-other-preserved : goal.loop-other-preserved
loop-other-preserved c = missed c.args.set.now c.loop-other.other-index c.args.spot c.loop-other-test.true c.if-other-spot.false c.loop-other.invariant

pub returns-then-other-spot : goal.returns-then-other-spot
returns-then-other-spot c = sym (has_at c.args.set.now c.loop-other.other-index c.args.spot c.loop-other-test.true c.if-other-spot.true)

pub returns : goal.returns
returns c = sym c.loop-other.invariant ∙ has_all c.args.set.now c.loop-other.other-index c.args.spot c.loop-other-test.false
