use Rattle.sp_emit.proofs.Steps.{same_within, step_added, step_within, other_below}
use Rattle.sp_emit.proofs.emitter.Emitter.emit.Goals as goal

pub invariant_of-self : goal.invariant_of-self
invariant_of-self c =
    let e = c.self.inside in
    same_within e.kinds e.consts.items e.steps.items e.here c.row.new.self c.row.ensures.same c.self.invariant

pub invariant_of-self-in_err-push : goal.invariant_of-self-in_err-push
invariant_of-self-in_err-push c =
    let e = c.self.inside in
    rw c.in_err-push.ensures.items (same_within e.kinds e.consts.items e.steps.items e.here c.row.new.self c.row.ensures.same c.self.invariant)

pub invariant_of-self-2 : goal.invariant_of-self-2
invariant_of-self-2 c =
    let e = c.self.inside in
    rw c.in_ok-push.ensures.items
    (step_within e.kinds e.consts.items e.steps.items e.here c.row.new.self _ c.row.ensures.same c.in_ok-before.ensures.row (other_below _ c.args.instr c.requires) c.self.invariant)

pub returns : goal.returns
returns c =
    let e = c.self.inside in
    rw (c.in_ok-push.ensures.items, ← c.self.view_is)
    (step_added e.kinds e.consts.items e.steps.items e.here c.row.new.self _ c.row.ensures.same c.in_ok-before.ensures.row c.requires c.self.invariant)
