use Rattle.std.proofs.Common.{◌≡◌, ap, ◌∙◌}
use Rattle.std.proofs.lemmas.Result.{IfOk-weaker}
use Rattle.sp_type_hook_order.specs.Keys.{hooks_of, parts_of}
use Rattle.sp_type_hook_order.specs.inside.Buckets.{told}
use Rattle.sp_type_hook_order.proofs.table.HookTable.hooks.Goals as goal

pub returns : goal.returns
returns c =
    IfOk-weaker c.find.result (λ n. n ≡ told c.self.inside.buckets c.parts_of.result) (λ n. n ≡ hooks_of c.args.self.now.0 c.args.self.now.1 c.args.key)
    (λ n is. is
    ∙ ap (told c.self.inside.buckets) c.parts_of.ensures
    ∙ c.self.invariant (parts_of c.args.key)
    ∙ ap (λ v. hooks_of v.0 v.1 c.args.key) c.self.view_is) c.find.ensures
