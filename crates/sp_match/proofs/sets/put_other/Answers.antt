use Rattle.std.proofs.Common.{◌∙◌}
use Rattle.sp_match.specs.Sets.{has}
use Rattle.sp_match.proofs.Lists.{put_kept, put_left}
use Rattle.sp_match.proofs.sets.put_other.Goals as goal

pub returns-then-spot-other : goal.returns-then-spot-other
returns-then-spot-other c = λ p. put_left (has c.args.set.now.items p) c.args.spot c.args.other p c.if-spot-other.true

pub returns : goal.returns
returns c = λ p. c.in_ok-put.ensures p ∙ put_kept (has c.args.set.now.items p) c.args.spot c.args.other p c.if-spot-other.false
