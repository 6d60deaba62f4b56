use Rattle.std.proofs.Common.{◌≡◌, ◌+◌, ◌∙◌, ap}
use Rattle.std.proofs.lemmas.Result.{on_ok_weaker}
use Rattle.sp_lower_expr.specs.Around.{globals_in, layout_in}
use Rattle.sp_lower_stmt.proofs.Rounds.{each_added}
use Rattle.sp_lower_stmt.proofs.loops.each.Goals as goal

pub returns : goal.returns
returns c =
    let g = globals_in c.args.around.now in
    let l = layout_in c.args.around.now in
    let is_behind : c.in_ok-behind.behind ≡ c.args.leave + 1 + 1 = c.in_ok-behind.ensures ∙ ap (λ n. n + 1) c.in_ok-sum.ensures in
    on_ok_weaker c.emit_last.result
    (each_added g l c.args.out.now _ _ _ c.args.head.now c.args.leave c.in_ok-behind.behind c.in_ok-local.local is_behind c.in_ok-local.ensures c.in_ok-emit.ensures c.in_ok-push_type.ensures) c.emit_last.ensures
