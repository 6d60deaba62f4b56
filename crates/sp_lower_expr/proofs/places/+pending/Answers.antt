use Rattle.std.proofs.Common.{OnOk, subst}
use Rattle.std.proofs.lemmas.Result.{on_ok_weaker}
use Rattle.sp_code.specs.Shapes.{push}
use Rattle.sp_code_programs.specs.exprs.Code.{kind_of, pending}
use Rattle.sp_emit.specs.Emitted.{TurnsTo}
use Rattle.sp_emit.proofs.Adding.{turns_then}
use Rattle.sp_lower_expr.specs.Around.{globals_in, layout_in}
use Rattle.sp_lower_expr.proofs.places.+pending.Goals as goal

pub returns-in_ok-pending-in-Two : goal.returns-in_ok-pending-in-Two
returns-in_ok-pending-in-Two t c =
    let g = globals_in c.args.around.now in
    let l = layout_in c.args.around.now in
    let j = kind_of g l c.in-Two.a.now in
    let k = kind_of g l c.in-Two.b.now in
    subst (λ e. OnOk c.push_values.result (TurnsTo c.args.out.now c.push_values.new.out (pending g l c.args.out.now.now e))) c.in-Two.ensures
    (on_ok_weaker c.push_values.result (turns_then (λ s. push k (push j s)) c.in_ok-pending-in-Two.ensures) c.push_values.ensures)
