use Rattle.std.proofs.lemmas.Result.{on_ok_weaker}
use Rattle.sp_emit.proofs.Growing.{grows_then}
use Rattle.sp_lower_expr.specs.Around.{globals_in, layout_in}
use Rattle.sp_lower_stmt.proofs.Sequels.{still_below, body_added}
use Rattle.sp_lower_stmt.proofs.bodies.body.Goals as goal

pub push-requires : goal.push-requires
push-requires c = still_below _ _ c.args.kind (grows_then _ _ _ c.in_ok-stmt.ensures.kinds c.in_ok-constant.ensures.kinds) c.requires.kind

pub returns : goal.returns
returns c =
    let g = globals_in c.args.around.now in
    let l = layout_in c.args.around.now in
    on_ok_weaker c.emit_last.result
    (body_added g l c.args.out.now _ _ _ _ c.args.ending c.args.kind c.in_ok-begin.begin c.args.s.now c.in_ok-begin.ensures c.requires.kind c.in_ok-stmt.ensures c.in_ok-constant.ensures c.in_ok-push.ensures)
    c.emit_last.ensures
