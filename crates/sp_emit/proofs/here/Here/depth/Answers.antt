use Rattle.std.proofs.Common.{length, ap, ◌∙◌}
use Rattle.sp_emit.proofs.here.Here.depth.Goals as goal

pub returns : goal.returns
returns c = c.self.invariant.depth ∙ ap (λ x. length x.shape.operands) c.self.view_is
