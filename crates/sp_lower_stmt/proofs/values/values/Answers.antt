use Rattle.std.proofs.Common.{◌≡◌, ◌+◌, length, drop, sym, ap, subst, ◌∙◌, arith}
use Rattle.std.proofs.Math.Seq.{drop-length}
use Rattle.sp_typed.specs.Exprs.{exprs}
use Rattle.sp_emit.proofs.Adding.{adds_nothing}
use Rattle.sp_lower_expr.specs.Around.{globals_in, layout_in}
use Rattle.sp_lower_expr.specs.Literals.{AllLiteralsFit}
use Rattle.sp_lower_size.proofs.Falls.{next_item}
use Rattle.sp_lower_stmt.specs.Added.{AddsValues}
use Rattle.sp_lower_stmt.proofs.Tests.{values_added}
use Rattle.sp_lower_stmt.proofs.values.values.Goals as goal

pub value-requires : goal.value-requires
value-requires c =
    let next = next_item c.args.all.now c.loop-e.e-index c.e-item.result c.loop-e-test.true c.e-item.is in
    let fits = subst (λ es. AllLiteralsFit (exprs es)) next c.loop-e.invariant.literals in
    fits.0

pub loop-e-preserved : goal.loop-e-preserved
loop-e-preserved c =
    let g = globals_in c.args.around.now in
    let l = layout_in c.args.around.now in
    let next = next_item c.args.all.now c.loop-e.e-index c.e-item.result c.loop-e-test.true c.e-item.is in
    let fits = subst (λ es. AllLiteralsFit (exprs es)) next c.loop-e.invariant.literals in
    let rest = drop (c.loop-e.e-index + 1) c.args.all.now in
    record {
      literals = fits.1;
      code =
          λ x h. c.loop-e.invariant.code x
          (subst (λ es. AddsValues c.args.around.now c.loop-e.out x c.args.local c.args.body (exprs es)) (sym next)
          (values_added g l c.loop-e.out _ x c.e-item.result (exprs rest) c.args.local c.args.body c.in_ok-value.ensures h));
    }

pub returns : goal.returns
returns c =
    let all : c.loop-e.e-index ≡ length c.args.all.now = omega arith in
    let none_left = ap (λ n. drop n c.args.all.now) all ∙ drop-length c.args.all.now in
    c.loop-e.invariant.code c.loop-e.out
    (subst (λ es. AddsValues c.args.around.now c.loop-e.out c.loop-e.out c.args.local c.args.body (exprs es)) (sym none_left) (adds_nothing c.loop-e.out))
