use Rattle.std.proofs.Common.{length, sym, ap, ◌∙◌}
use Rattle.sp_type_stmts.proofs.Tabled.{names_count}
use Rattle.sp_type_stmts.proofs.locals.Locals.len.Goals as goal

pub returns : goal.returns
returns c =
    c.len.ensures ∙ c.self.inside.opened.ok.0 ∙ sym (names_count c.self.inside.opened.items) ∙ ap length c.self.view_is
