use Rattle.sp_code_programs.specs.exprs.Code.{kind_of}
use Rattle.sp_code_programs.specs.units.Code.{message, message_kind}
use Rattle.sp_lower_expr.specs.Around.{globals_in, layout_in}
use Rattle.sp_lower_stmt.proofs.Straight.{asserted_added}
use Rattle.sp_lower_stmt.proofs.plain.asserted.Goals as goal

pub returns : goal.returns
returns c =
    let k = kind_of (globals_in c.args.around.now) (layout_in c.args.around.now) c.args.e.now in
    asserted_added c.args.out.now _ _ _ _ _ _ k (message_kind c.args.text.now) (message c.args.text.now) c.in_ok-expr.ensures c.in_ok-as_bool.ensures c.in_ok-message.ensures c.in_ok-emit_last.ensures c.pop.ensures
