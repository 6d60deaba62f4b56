use Rattle.std.proofs.Common.{◌≡◌, ◌+◌, ◌*◌, drop}
use Rattle.sp_rules.specs.Least.{checked}
use Rattle.sp_typed.specs.Exprs.{exprs}
use Rattle.sp_typed.specs.inside.ExprCodes.{expr_size, exprs_size}
use Rattle.sp_rule_lists.specs.Names.{exprs_names}
use Rattle.sp_rule_lists.proofs.stmt_names.+names.Given as goal

abbrev pub decreases-note_expr_names : goal.decreases-note_expr_names
decreases-note_expr_names l = 2 * expr_size l.e.now + 1

abbrev pub decreases-note_exprs_names : goal.decreases-note_exprs_names
decreases-note_exprs_names l = 2 * exprs_size (exprs l.parts.now)

abbrev pub invariant-note_exprs_names-loop-e : goal.invariant-note_exprs_names-loop-e
invariant-note_exprs_names-loop-e l = checked l.least (exprs_names l.owner (exprs (drop l.e-index l.parts))) ≡ checked l.fn.least (exprs_names l.owner (exprs l.parts))
