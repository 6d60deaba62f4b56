use Rattle.std.proofs.lemmas.Result.{on_ok_weaker}
use Rattle.sp_methods.specs.Kinds.{Bools}
use Rattle.sp_code.specs.Shapes.{push}
use Rattle.sp_code_programs.specs.exprs.Code.{kind_of}
use Rattle.sp_emit.proofs.Adding.{adds_turn}
use Rattle.sp_lower_expr.specs.Around.{globals_in, layout_in}
use Rattle.sp_lower_stmt.proofs.loops.test.Goals as goal

pub returns : goal.returns
returns c =
    let s = c.args.out.now.now in
    let k = kind_of (globals_in c.args.around.now) (layout_in c.args.around.now) c.args.e.now in
    on_ok_weaker c.as_bool.result (adds_turn (λ t. push Bools s) c.in_ok-expr.ensures) (c.as_bool.ensures s k c.in_ok-expr.ensures.now)
