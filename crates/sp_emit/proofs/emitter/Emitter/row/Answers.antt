use Rattle.sp_emit.proofs.Steps.{kinds_within, same_turned}
use Rattle.sp_emit.proofs.emitter.Emitter.row.Goals as goal

pub invariant_of-self : goal.invariant_of-self
invariant_of-self c =
    let e = c.self.inside in
    kinds_within e.kinds c.row.new.self e.consts.items e.steps.items e.here c.row.ensures.grows c.self.invariant

pub returns-clause-same : goal.returns-clause-same
returns-clause-same c =
    let e = c.self.inside in
    rw (← c.self.view_is) (same_turned e.kinds c.row.new.self e.consts.items e.steps.items e.here c.row.ensures.grows c.self.invariant)
