use Rattle.std.proofs.Common.{◌≡◌, ◌+◌, ◌*◌, drop}
use Rattle.sp_rules.specs.Least.{checked}
use Rattle.sp_typed.specs.Exprs.{exprs}
use Rattle.sp_typed.specs.inside.ExprCodes.{expr_size, exprs_size}
use Rattle.sp_rule_units.specs.Readings.{exprs_tests}
use Rattle.sp_rule_units.proofs.sweep.+expr.Given as goal

abbrev pub decreases-note_expr : goal.decreases-note_expr
decreases-note_expr l = 2 * expr_size l.e.now + 1

abbrev pub decreases-note_exprs : goal.decreases-note_exprs
decreases-note_exprs l = 2 * exprs_size (exprs l.parts.now)

abbrev pub invariant-note_exprs-loop-e : goal.invariant-note_exprs-loop-e
invariant-note_exprs-loop-e l =
    checked l.least (exprs_tests l.units l.here (exprs (drop l.e-index l.parts))) ≡ checked l.fn.least (exprs_tests l.units l.here (exprs l.parts))
