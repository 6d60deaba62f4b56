use Rattle.std.proofs.Common.{arith}
use Rattle.sp_type_unit_calls.proofs.Falls.{expr_falls}
use Rattle.sp_type_unit_calls.proofs.exprs.+calls.Goals as goal

pub exprs_call-expr_calls-requires : goal.exprs_call-expr_calls-requires
exprs_call-expr_calls-requires t c =
    let small = expr_falls c.args.all.now c.loop-e.e-index c.e-item.result (omega arith) c.e-item.is in
    (omega arith, tt)
