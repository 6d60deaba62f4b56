use Rattle.std.proofs.Common.{subst}
use Rattle.sp_code.specs.Shapes.{Shape}
use Rattle.sp_emit.specs.Emitted.{TurnsTo}
use Rattle.sp_emit.specs.inside.Fields.{emitted_of}
use Rattle.sp_emit.proofs.Steps.{moved_within, moved_to}
use Rattle.sp_emit.proofs.Turns.{some_dropped, pops_to}
use Rattle.sp_emit.proofs.emitter.Emitter.pop.Goals as goal

pub invariant_of-self : goal.invariant_of-self
invariant_of-self c =
    let e = c.self.inside in
    moved_within e.kinds e.consts.items e.steps.items e.here c.pop.new.self _ c.pop.ensures (some_dropped _ 1 e.here.shape c.self.invariant.here) c.self.invariant

pub returns : goal.returns
returns c =
    let e = c.self.inside in
    rw (← c.self.view_is)
    (subst (λ (s : Shape). TurnsTo (emitted_of e.kinds e.consts.items e.steps.items e.here) (emitted_of e.kinds e.consts.items e.steps.items c.pop.new.self) s)
    (pops_to e.kinds e.here.shape) (moved_to e.kinds e.consts.items e.steps.items e.here c.pop.new.self _ c.pop.ensures c.self.invariant))
