use Rattle.std.proofs.Common.{sym, subst, ◌∙◌}
use Rattle.sp_build.specs.Stacks.{IsNodeOnTop}
use Rattle.sp_build.proofs.Held.{respanned_top}
use Rattle.sp_build.proofs.stack.TreeStack.respan.Goals as goal

pub invariant_of-self : goal.invariant_of-self
invariant_of-self c = (respanned_top _ c.respan_last.new.self _ _ c.args.span c.are_sound.ensures.few c.self.invariant (subst IsNodeOnTop (sym c.self.view_is) c.requires) c.respan_last.ensures).0

pub returns : goal.returns
returns c = λ t s e.
    (respanned_top _ c.respan_last.new.self _ _ c.args.span c.are_sound.ensures.few c.self.invariant (subst IsNodeOnTop (sym c.self.view_is) c.requires) c.respan_last.ensures).1 t s (c.self.view_is ∙ e)
