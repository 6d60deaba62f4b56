use Rattle.std.proofs.Common.{◌∙◌}
use Rattle.sp_build.proofs.Held.{top_tree}
use Rattle.sp_build.proofs.stack.TreeStack.into_tree.Goals as goal

pub returns : goal.returns
returns c = λ t s e.
    c.at.ensures ∙ top_tree _ _ _ c.last_place-at.result t s c.self.invariant (λ others x q. c.last_place-at.ensures others x (c.deref.ensures.value ∙ q)) (c.self.view_is ∙ e)
