use Rattle.std.proofs.Common.{◌<◌, length, subst, sym}
use Rattle.sp_emit.specs.Emitted.{Emitted}
use Rattle.sp_emit.proofs.Steps.{same_within, moved_within, moved_to}
use Rattle.sp_emit.proofs.Turns.{one_more}
use Rattle.sp_emit.proofs.emitter.Emitter.push.Goals as goal

pub invariant_of-self : goal.invariant_of-self
invariant_of-self c =
    let e = c.self.inside in
    same_within e.kinds e.consts.items e.steps.items e.here c.push.new.self c.in_err-push.ensures.err c.self.invariant

pub invariant_of-self-2 : goal.invariant_of-self-2
invariant_of-self-2 c =
    let e = c.self.inside in
    let below = subst (λ (x : Emitted). c.args.n < length x.kinds) (sym c.self.view_is) c.requires in
    moved_within e.kinds e.consts.items e.steps.items e.here c.push.new.self _ c.in_ok-push.ensures.ok (one_more (length e.kinds) c.args.n e.here.shape below c.self.invariant.here) c.self.invariant

pub returns : goal.returns
returns c =
    let e = c.self.inside in
    rw (← c.self.view_is) (moved_to e.kinds e.consts.items e.steps.items e.here c.push.new.self _ c.in_ok-push.ensures.ok c.self.invariant)
