use Rattle.std.proofs.Common.{arith, ◌∙◌}
use Rattle.sp_build.proofs.Held.{ended_last, ended_nowhere}
use Rattle.sp_build.proofs.stack.TreeStack.end.Goals as goal

pub invariant_of-self : goal.invariant_of-self
invariant_of-self c =
    (ended_last _ _ _ c.truncate.new.self.items c.len-count.result (omega (arith, c.len-count.ensures)) c.if-count-gt0.true c.truncate.ensures.items c.self.invariant).0

pub returns-then-count-gt0 : goal.returns-then-count-gt0
returns-then-count-gt0 c = λ t at s e.
    (ended_last _ _ _ c.truncate.new.self.items c.len-count.result (omega (arith, c.len-count.ensures)) c.if-count-gt0.true c.truncate.ensures.items c.self.invariant).1 t at s (c.self.view_is ∙ e)

pub returns-else-count-gt0 : goal.returns-else-count-gt0
returns-else-count-gt0 c = λ t at s e.
    absurd (ended_nowhere _ c.self.inside.places.items c.self.inside.begins.items c.len-count.result t at s (omega (arith, c.len-count.ensures)) c.if-count-gt0.false (c.self.view_is ∙ e))
