use Rattle.std.proofs.Common.{sym, ap, ◌∙◌, arith}
use Rattle.std.proofs.lemmas.Result.{on_ok_weaker}
use Rattle.sp_value.specs.Val.{tuple, vals_of}
use Rattle.sp_types.specs.Types.{made, tys}
use Rattle.sp_meaning_states.specs.Types.{zero_value}
use Rattle.sp_meaning.specs.Globals.{range_counts}
use Rattle.sp_emit.proofs.Plans.{pushed, led, lessened}
use Rattle.sp_lower_expr.proofs.Zeros.{values_of_each}
use Rattle.sp_lower_expr.proofs.values.begin.Goals as goal

pub returns-in_ok-push-in-Made-Tuple-default-clause-found : goal.returns-in_ok-push-in-Made-Tuple-default-clause-found
returns-in_ok-push-in-Made-Tuple-default-clause-found c =
    let ranges = range_counts c.args.bitfields.now in
    let parts = c.in-Made-Tuple-default.parts.now in
    on_ok_weaker c.push_parts.result (λ e. led parts e (pushed c.args.tasks.now.items _ c.in_ok-push-in-Made-Tuple-default.ensures.items) (ap (λ m. made m (tys parts)) (sym c.in-Made-Tuple-default.field-0-is) ∙ c.in-Made-Tuple-default.ensures) (zero_value ranges) (λ m vs. tuple (vals_of vs)) c.args.done.now.items (omega arith) (ap tuple (values_of_each ranges parts))) c.push_parts.ensures

pub returns-in_ok-push-in-Made-Tuple-default-clause-falls : goal.returns-in_ok-push-in-Made-Tuple-default-clause-falls
returns-in_ok-push-in-Made-Tuple-default-clause-falls c =
    let parts = c.in-Made-Tuple-default.parts.now in
    on_ok_weaker c.push_parts.result (λ e. lessened parts e (pushed c.args.tasks.now.items _ c.in_ok-push-in-Made-Tuple-default.ensures.items) (ap (λ m. made m (tys parts)) (sym c.in-Made-Tuple-default.field-0-is) ∙ c.in-Made-Tuple-default.ensures)) c.push_parts.ensures
