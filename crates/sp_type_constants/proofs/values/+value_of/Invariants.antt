use Rattle.std.proofs.Common.{◌≡◌, ◌+◌, ◌*◌, drop, ◌++◌}
use Rattle.sp_typed.specs.Exprs.{exprs}
use Rattle.sp_typed.specs.inside.ExprCodes.{expr_size, exprs_size}
use Rattle.sp_type_constants.specs.Outcomes.{worse, worst, values}
use Rattle.sp_type_constants.specs.Values.{all_values}
use Rattle.sp_type_constants.proofs.values.+value_of.Given as goal

abbrev pub decreases-value_of : goal.decreases-value_of
decreases-value_of g l = 3 * expr_size l.e.now + 2

abbrev pub decreases-behind : goal.decreases-behind
decreases-behind g l = 3 * expr_size l.part.now + 3

abbrev pub decreases-many_value : goal.decreases-many_value
decreases-many_value g l = 3 * exprs_size (exprs l.parts.now) + 1

abbrev pub decreases-gathered : goal.decreases-gathered
decreases-gathered g l = 3 * exprs_size (exprs l.parts.now)

abbrev pub invariant-gathered-loop-part : goal.invariant-gathered-loop-part
invariant-gathered-loop-part g l =
    (worse l.lack (worst (all_values (g.C.Constants.known l.constants) (exprs (drop l.part-index l.parts)))) ≡ worst (all_values (g.C.Constants.known l.constants) (exprs l.parts)))
    × (l.values.items ++ values (all_values (g.C.Constants.known l.constants) (exprs (drop l.part-index l.parts))) ≡ values (all_values (g.C.Constants.known l.constants) (exprs l.parts)))
