use Rattle.std.proofs.Common.{length, ap, sym, ◌∙◌}
use Rattle.sp_emit.proofs.Turns.{kinds_long}
use Rattle.sp_emit.proofs.emitter.Emitter.depth.Goals as goal

pub returns : goal.returns
returns c =
    let e = c.self.inside in
    c.depth.ensures ∙ sym (kinds_long e.kinds e.here.shape.operands) ∙ ap (λ x. length x.now.operands) c.self.view_is
