use Rattle.std.proofs.Common.{◌≡◌, ◌+◌, subst, arith, IfOk}
use Rattle.sp_code_programs.specs.exprs.Sizes.{change_size}
use Rattle.sp_lower_size.proofs.forms.change_size.Goals as goal

pub returns : goal.returns
returns c =
    let whole : c.in_ok-sum-3.field-0 + 1 ≡ change_size c.args.m c.args.load c.args.args c.args.store = omega arith in
    subst (λ k. IfOk c.sum-4.result (λ n. n ≡ k)) whole c.sum-4.ensures
