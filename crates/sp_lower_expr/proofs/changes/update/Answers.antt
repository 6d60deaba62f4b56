use Rattle.std.proofs.Common.{ap, ◌∙◌}
use Rattle.std.proofs.lemmas.Result.{on_ok_weaker}
use Rattle.sp_code.specs.Shapes.{push}
use Rattle.sp_code_programs.specs.exprs.Code.{kind_of}
use Rattle.sp_emit.specs.Emitted.{popped}
use Rattle.sp_lower_expr.specs.Around.{globals_in, layout_in}
use Rattle.sp_lower_expr.proofs.Puts.{updated}
use Rattle.sp_lower_expr.proofs.changes.update.Goals as goal

pub returns : goal.returns
returns c =
    let g = globals_in c.args.around.now in
    let l = layout_in c.args.around.now in
    let out = c.args.out.now in
    let loaded = c.in_ok-load.ensures in
    let value = c.in_ok-expr.ensures in
    let taken = c.in_ok-emit_last.ensures in
    let here = taken.now ∙ ap popped (value.now ∙ ap (push (kind_of g l c.args.value.now)) loaded.now) in
    on_ok_weaker c.store.result (updated g l out _ _ _ _ c.args.owner c.args.target.now c.args.value.now c.args.op loaded value taken) (c.store.ensures out.now here)
