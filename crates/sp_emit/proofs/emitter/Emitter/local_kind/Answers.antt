use Rattle.sp_emit.proofs.Parts.{part_at, no_part_at}
use Rattle.sp_emit.proofs.emitter.Emitter.local_kind.Goals as goal

pub returns-clause-some : goal.returns-clause-some
returns-clause-some c =
    let e = c.self.inside in
    rw (← c.self.view_is) (part_at e.kinds e.here.shape.locals c.args.l _ c.self.invariant.here.locals c.local.ensures.some)

pub returns-clause-none : goal.returns-clause-none
returns-clause-none c =
    let e = c.self.inside in
    rw (← c.self.view_is) (no_part_at e.kinds e.here.shape.locals c.args.l _ c.local.ensures.none)
