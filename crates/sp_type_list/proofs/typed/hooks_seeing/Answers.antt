use Rattle.std.proofs.Common.{◌≡◌, ap, subst, ◌∙◌, List, map}
use Rattle.std.specs.Prelude.{IfOk}
use Rattle.sp_solver.specs.Told.{told}
use Rattle.sp_type_context.specs.Contexts.{Around}
use Rattle.sp_type_hooks.specs.Hooks.{typed_hooks}
use Rattle.sp_type_list_context.specs.Contexts.{in_modules}
use Rattle.sp_type_list_context.specs.Holds.{here_told}
use Rattle.sp_type_declarations.specs.FunctionsAndOrders.{ranks}
use Rattle.sp_type_list.proofs.typed.hooks_seeing.Goals as goal

pub returns : goal.returns
returns c = λ f tells.
    let list = c.args.known.now.row.now.0 in
    let types = told c.args.known.now.row.now.1 in
    let known = told c.args.known.now.answers.now in
    let modules : map here_told c.deref.result.now ≡ in_modules list types known (told c.args.stored.now) = ap (map here_told) c.deref.ensures.value ∙ c.in_ok-modules.ensures in
    subst (λ (contexts : List Around). IfOk c.typed_hooks.result (λ v. v.items ≡ typed_hooks contexts (ranks list types known) f c.args.seen.now c.args.rows.now)) modules (c.typed_hooks.ensures f tells)
