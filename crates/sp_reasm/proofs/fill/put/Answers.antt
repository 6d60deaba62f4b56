use Rattle.std.proofs.Common.{ap, ◌∙◌}
use Rattle.sp_reasm.specs.inside.Filling.{undone}
use Rattle.sp_reasm.proofs.FillLemmas.{undone-push}
use Rattle.sp_reasm.proofs.fill.put.Goals as goal

pub returns-in-Ok-clause-back : goal.returns-in-Ok-clause-back
returns-in-Ok-clause-back c =
    ap (λ l. undone l c.insert.new.self) c.in-Ok.ensures.items
    ∙ undone-push c.args.starts.now.items c.args.piece.start c.insert.new.self
    ∙ ap (λ l. undone c.args.starts.now.items l) c.in_ok-insert.ensures.back
