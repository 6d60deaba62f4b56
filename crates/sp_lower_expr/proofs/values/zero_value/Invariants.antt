use Rattle.std.proofs.Common.{◌≡◌, [], ◌∷◌}
use Rattle.sp_meaning_states.specs.Types.{zero_value}
use Rattle.sp_meaning.specs.Globals.{range_counts}
use Rattle.sp_emit.specs.Plans.{plans, work}
use Rattle.sp_lower_expr.specs.inside.ZeroPlans.{zeros_behind}
use Rattle.sp_lower_expr.proofs.values.zero_value.Given as goal

abbrev pub decreases-loop-task : goal.decreases-loop-task
decreases-loop-task l = work (plans l.tasks.items)

abbrev pub invariant-loop-task : goal.invariant-loop-task
invariant-loop-task l = zeros_behind (range_counts l.bitfields) (plans l.tasks.items) l.done.items ≡ zero_value (range_counts l.bitfields) l.ty ∷ []
