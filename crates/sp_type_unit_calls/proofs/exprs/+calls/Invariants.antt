use Rattle.std.proofs.Common.{◌≡◌, ◌+◌, ◌*◌, drop}
use Rattle.sp_typed.specs.Exprs.{exprs}
use Rattle.sp_typed.specs.inside.ExprCodes.{expr_size, exprs_size}
use Rattle.sp_type_unit_calls.specs.Calls.{exprs_call}
use Rattle.sp_type_unit_calls.proofs.exprs.+calls.Given as goal

abbrev pub decreases-expr_calls : goal.decreases-expr_calls
decreases-expr_calls l = 2 * expr_size l.e.now + 1

abbrev pub decreases-exprs_call : goal.decreases-exprs_call
decreases-exprs_call l = 2 * exprs_size (exprs l.all.now)

abbrev pub invariant-exprs_call-loop-e : goal.invariant-exprs_call-loop-e
invariant-exprs_call-loop-e l = exprs_call l.method (exprs (drop l.e-index l.all)) ≡ exprs_call l.method (exprs l.all)
