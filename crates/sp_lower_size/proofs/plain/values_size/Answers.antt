use Rattle.std.proofs.Common.{◌+◌, refl, arith}
use Rattle.sp_typed.specs.Exprs.{exprs}
use Rattle.sp_code_programs.specs.exprs.Sizes.{expr_size}
use Rattle.sp_code_programs.specs.units.Sizes.{values_size}
use Rattle.sp_lower_expr.specs.Around.{layout_in}
use Rattle.sp_lower_size.proofs.Falls.{count_next, count_all}
use Rattle.sp_lower_size.proofs.plain.values_size.Goals as goal

pub loop-value-preserved : goal.loop-value-preserved
loop-value-preserved c =
    let l = layout_in c.args.around.now in
    count_next (λ es. values_size l (exprs es)) (λ e. expr_size l e + 4) (λ x xs. omega arith) c.args.values.now c.loop-value.value-index c.value-item.result c.loop-value.total _ _ c.loop-value-test.true c.value-item.is (omega arith) c.loop-value.invariant

pub returns : goal.returns
returns c =
    let l = layout_in c.args.around.now in
    count_all (λ es. values_size l (exprs es)) refl c.args.values.now c.loop-value.value-index c.loop-value.total _ (omega arith) c.loop-value.invariant
