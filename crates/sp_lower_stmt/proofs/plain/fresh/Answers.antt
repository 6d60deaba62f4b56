use Rattle.std.proofs.Common.{◌∙◌, ap}
use Rattle.std.proofs.lemmas.Result.{on_ok_weaker}
use Rattle.sp_meaning_states.specs.Types.{zero_value, kind_of_type}
use Rattle.sp_meaning.specs.Globals.{range_counts}
use Rattle.sp_code.specs.declared.instr.Instr.TheVariants.{Store}
use Rattle.sp_lower_expr.specs.Around.{globals_in}
use Rattle.sp_lower_stmt.proofs.Straight.{given_added}
use Rattle.sp_lower_stmt.proofs.plain.fresh.Goals as goal

pub returns : goal.returns
returns c =
    let g = globals_in c.args.around.now in
    let t = c.args.local.now.ty in
    on_ok_weaker c.emit_last.result
    (given_added c.args.out.now _ _ _ c.in_ok-zero.zero (zero_value g.ranges t) (kind_of_type g.ranges t) _ _
    (c.in_ok-zero.ensures ∙ ap (λ bs. zero_value (range_counts bs) t) c.bitfields.ensures) (ap Store c.in_ok-sum.ensures) c.in_ok-constant.ensures c.in_ok-push_type.ensures) c.emit_last.ensures
