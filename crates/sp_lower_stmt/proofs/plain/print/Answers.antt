use Rattle.std.proofs.Common.{◌≡◌, length, arith}
use Rattle.sp_lower_expr.specs.Around.{globals_in, layout_in}
use Rattle.sp_lower_stmt.proofs.Tests.{print_added}
use Rattle.sp_lower_stmt.proofs.plain.print.Goals as goal

pub returns : goal.returns
returns c =
    let g = globals_in c.args.around.now in
    let l = layout_in c.args.around.now in
    let counted : c.in_ok-number.field-0 ≡ length c.args.values.now = omega arith in
    print_added g l c.args.out.now _ _ _ c.args.values.now c.in_ok-number.field-0 _ counted c.depth-depth.ensures c.in_ok-exprs.ensures c.in_ok-emit.ensures c.lower.ensures
