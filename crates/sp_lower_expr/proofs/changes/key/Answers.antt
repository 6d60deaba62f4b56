use Rattle.std.proofs.Common.{ap, subst, ◌∙◌, OnOk}
use Rattle.std.proofs.lemmas.Result.{on_ok_weaker}
use Rattle.sp_code.specs.Shapes.{push}
use Rattle.sp_code_programs.specs.exprs.Code.{kind_of}
use Rattle.sp_emit.specs.Emitted.{popped}
use Rattle.sp_lower_expr.specs.Around.{globals_in, layout_in}
use Rattle.sp_lower_expr.specs.Changes.{AddsKey}
use Rattle.sp_lower_expr.proofs.Puts.{key_changed}
use Rattle.sp_lower_expr.proofs.changes.key.Goals as goal

pub returns-in_ok-emit_last-in-Two : goal.returns-in_ok-emit_last-in-Two
returns-in_ok-emit_last-in-Two c =
    let g = globals_in c.args.around.now in
    let l = layout_in c.args.around.now in
    let out = c.args.out.now in
    let a = c.in-Two.a.now in
    let b = c.in-Two.k.now in
    let loaded = c.in_ok-load-in-Two.ensures in
    let key = c.in_ok-expr-in-Two.ensures in
    let taken = c.in_ok-emit_last-in-Two.ensures in
    let here = taken.now ∙ ap popped (key.now ∙ ap (push (kind_of g l b)) loaded.now) in
    subst (λ e. OnOk c.store.result (AddsKey c.args.around.now out c.store.new.out c.args.owner e c.args.instr)) c.in-Two.ensures
    (on_ok_weaker c.store.result (key_changed g l out _ _ _ _ c.args.owner c.in-Two.field-0.now a b c.args.instr loaded key taken) (c.store.ensures out.now here))
