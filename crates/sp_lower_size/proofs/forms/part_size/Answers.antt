use Rattle.std.proofs.Common.{◌≡◌, ◌+◌, subst, arith, IfOk}
use Rattle.sp_lower_size.proofs.forms.part_size.Goals as goal

pub returns : goal.returns
returns c =
    let whole : c.in_ok-sum.field-0 + 2 ≡ c.args.test + (1 + (c.args.body + 1)) = omega arith in
    subst (λ k. IfOk c.sum-2.result (λ n. n ≡ k)) whole c.sum-2.ensures
