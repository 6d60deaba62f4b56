use Rattle.std.proofs.Common.{◌≡◌, ◌+◌, subst, arith, IfOk}
use Rattle.sp_lower_size.proofs.forms.three_size.Goals as goal

pub returns : goal.returns
returns c =
    let whole : c.in_ok-sum-2.field-0 + 2 ≡ c.args.c + (1 + (c.args.a + (1 + c.args.b))) = omega arith in
    subst (λ k. IfOk c.sum-3.result (λ n. n ≡ k)) whole c.sum-3.ensures
