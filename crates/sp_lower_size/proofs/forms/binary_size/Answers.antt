use Rattle.std.proofs.Common.{◌≡◌, ◌+◌, ◌∙◌, subst, arith, IfOk}
use Rattle.sp_lower_size.specs.Beside.{beside}
use Rattle.sp_lower_size.proofs.Choices.{binary_sized}
use Rattle.sp_lower_size.proofs.forms.binary_size.Goals as goal

pub returns : goal.returns
returns c =
    let a = c.args.a in
    let b = c.args.b in
    let whole : c.in_ok-sum.field-0 + c.beside.result ≡ a + b + beside c.args.op = omega arith in
    subst (λ k. IfOk c.sum-2.result (λ n. n ≡ k)) (whole ∙ binary_sized c.args.op a b) c.sum-2.ensures
