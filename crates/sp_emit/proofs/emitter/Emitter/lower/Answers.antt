use Rattle.std.proofs.Common.{subst}
use Rattle.sp_code.specs.Shapes.{Shape}
use Rattle.sp_emit.specs.Emitted.{TurnsTo}
use Rattle.sp_emit.specs.inside.Fields.{emitted_of}
use Rattle.sp_emit.proofs.Steps.{moved_within, moved_to}
use Rattle.sp_emit.proofs.Turns.{some_dropped, lowers_to}
use Rattle.sp_emit.proofs.emitter.Emitter.lower.Goals as goal

pub invariant_of-self : goal.invariant_of-self
invariant_of-self c =
    let e = c.self.inside in
    moved_within e.kinds e.consts.items e.steps.items e.here c.lower.new.self _ c.lower.ensures (some_dropped _ _ e.here.shape c.self.invariant.here) c.self.invariant

pub returns : goal.returns
returns c =
    let e = c.self.inside in
    rw (← c.self.view_is)
    (subst (λ (s : Shape). TurnsTo (emitted_of e.kinds e.consts.items e.steps.items e.here) (emitted_of e.kinds e.consts.items e.steps.items c.lower.new.self) s)
    (lowers_to e.kinds c.args.depth e.here.shape) (moved_to e.kinds e.consts.items e.steps.items e.here c.lower.new.self _ c.lower.ensures c.self.invariant))
