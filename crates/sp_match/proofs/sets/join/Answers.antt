use Rattle.std.proofs.Common.{◌||◌, ap, sym, ◌∙◌}
use Rattle.sp_match.specs.Sets.{has}
use Rattle.sp_match.proofs.Lists.{joined_more, has_all}
use Rattle.sp_match.proofs.Compiling.{or_false}
use Rattle.sp_match.proofs.sets.join.Goals as goal

pub loop-i-init : goal.loop-i-init
loop-i-init c = λ p. sym (or_false (has c.args.set.now.items p))

pub loop-i-preserved : goal.loop-i-preserved
loop-i-preserved c = λ p. joined_more (has c.args.set.now.items p) (has c.loop-i.set.items p) (has c.put.new.set.items p) c.args.more.now c.loop-i.i p c.loop-i-test.true (c.loop-i.invariant p) (c.in_ok-put.ensures p)

pub returns : goal.returns
returns c = λ p. c.loop-i.invariant p ∙ ap (λ z. has c.args.set.now.items p || z) (has_all c.args.more.now c.loop-i.i p c.loop-i-test.false)
