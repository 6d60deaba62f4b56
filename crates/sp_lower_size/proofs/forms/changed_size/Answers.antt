use Rattle.std.proofs.Common.{◌≡◌, ◌+◌, subst, arith, IfOk}
use Rattle.sp_lower_size.proofs.forms.changed_size.Goals as goal

pub returns : goal.returns
returns c =
    let whole : c.in_ok-sum-2.field-0 + 1 ≡ c.args.load + (c.args.operand + (1 + c.args.store)) = omega arith in
    subst (λ k. IfOk c.sum-3.result (λ n. n ≡ k)) whole c.sum-3.ensures
