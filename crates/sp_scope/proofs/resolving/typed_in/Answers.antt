use Rattle.std.proofs.Common.{ap, sym, ◌∙◌, List}
use Rattle.sp_solver.specs.Told.{told}
use Rattle.sp_type_hook_rows.specs.declared.sites.Site.{Site}
use Rattle.sp_type_hook_rows.specs.HookRows.{rows_of}
use Rattle.sp_scope.proofs.Rows.{least_rows}
use Rattle.sp_scope.proofs.resolving.typed_in.Goals as goal

pub returns-clause-least : goal.returns-clause-least
returns-clause-least c =
    let list = c.args.known.now.row.now.0 in
    let f = told c.args.known.now.row.now.1 in
    least_rows list f (told c.args.known.now.answers.now) c.args.stored.now c.as_slice-2.result.now c.as_slice-3.result.now
    (c.as_slice-2.ensures.value ∙ c.in_ok-sites.ensures)
    (c.as_slice-3.ensures.value ∙ c.in_ok-rows.ensures ∙ ap (λ (xs : List Site). rows_of list f xs) (c.as_slice.ensures.value ∙ sym c.as_slice-2.ensures.value))
    c.typed_at.result c.typed_at.ensures.typed c.typed_at.ensures.least
