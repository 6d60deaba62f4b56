use Rattle.std.proofs.lemmas.Result.{on_ok_weaker}
use Rattle.sp_lower_expr.specs.Around.{globals_in, layout_in}
use Rattle.sp_lower_stmt.proofs.Tests.{value_added}
use Rattle.sp_lower_stmt.proofs.values.value.Goals as goal

pub returns : goal.returns
returns c =
    let g = globals_in c.args.around.now in
    let l = layout_in c.args.around.now in
    on_ok_weaker c.emit_last-2.result
    (value_added g l c.args.out.now _ _ _ _ _ _ _ c.args.e.now c.args.local c.args.body c.in_ok-emit.ensures c.in_ok-push_local.ensures c.in_ok-expr.ensures c.in_ok-emit_last.ensures c.in_ok-as_bool.ensures c.in_ok-emit-2.ensures)
    c.emit_last-2.ensures
