use Rattle.std.proofs.Common.{sym, ap, ◌∙◌}
use Rattle.sp_reasm.specs.inside.Filling.{undone}
use Rattle.sp_reasm.proofs.FillLemmas.{undone-push}
use Rattle.sp_reasm.proofs.fill.undo.Goals as goal

pub loop-start-preserved : goal.loop-start-preserved
loop-start-preserved c =
    ap (λ l. undone c.pop.new.self.items l) c.remove.ensures
    ∙ sym (undone-push c.pop.new.self.items c.in-Some.start c.loop-start.pieces)
    ∙ sym (ap (λ l. undone l c.loop-start.pieces) c.in-Some.ensures.items)
    ∙ c.loop-start.invariant
