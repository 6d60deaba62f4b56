use Rattle.std.proofs.Common.{◌≡◌, map, ◌∙◌}
use Rattle.std.proofs.lemmas.Result.{IfOk-weaker}
use Rattle.sp_type_hooks.specs.Hooks.{typed_hooks}
use Rattle.sp_type_hooks.specs.inside.Tables.{seen_told}
use Rattle.sp_type_hooks.proofs.Agreeing.{same_hooks}
use Rattle.sp_type_hooks.proofs.hooks.typed_hooks.Goals as goal

pub returns : goal.returns
returns g c = λ f tells.
    let contexts = map g.C.Context.around c.args.contexts.now in
    let ranks = g.R.Ranks.ranks c.args.ranks.now in
    let units = c.args.units.now in
    let rows = c.args.rows.now in
    IfOk-weaker c.told_hooks.result (λ v. v.items ≡ typed_hooks contexts ranks (seen_told c.args.types.now) units rows) (λ v. v.items ≡ typed_hooks contexts ranks f units rows)
    (λ v is. is ∙ same_hooks contexts ranks units (seen_told c.args.types.now) f rows tells) c.told_hooks.ensures
