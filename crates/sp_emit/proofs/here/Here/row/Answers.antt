use Rattle.sp_emit.proofs.Moving.{shape_stays, nothing_moves}
use Rattle.sp_emit.proofs.here.Here.row.Goals.{then-self-eq0+in_ok-self-inside, else-self-eq0}
use Rattle.sp_emit.proofs.here.Here.row.Goals as goal

pub returns-clause-same : goal.returns-clause-same
returns-clause-same c =
    let h = c.self.inside in
    elim c.if-self-eq0.branch [
      | then-self-eq0+in_ok-self-inside w ↦ rw (w.self-inside-is, ← c.self.view_is) (shape_stays h.stacks w.put_all.new.self h.unit h.round h.kinds.items h.locals h.operands h.depth w.put_all.ensures.grows c.self.invariant)
      | else-self-eq0 w ↦ rw (w.self-inside-is, ← c.self.view_is) (nothing_moves _)
    ]
