use Rattle.std.proofs.Common.{◌≡◌, ◌+◌, ◌*◌, drop}
use Rattle.sp_typed.specs.Exprs.{exprs}
use Rattle.sp_typed.specs.inside.ExprCodes as inside
use Rattle.sp_code_programs.specs.exprs.Sizes.{exprs_size}
use Rattle.sp_lower_expr.specs.Around.{layout_in}
use Rattle.sp_lower_size.proofs.nodes.+size.Given as goal

abbrev pub decreases-expr_size : goal.decreases-expr_size
decreases-expr_size l = 4 * inside.expr_size l.e.now + 3

abbrev pub decreases-one_node : goal.decreases-one_node
decreases-one_node l = 4 * inside.expr_size l.part.now + 4

abbrev pub decreases-many_node : goal.decreases-many_node
decreases-many_node l = 4 * inside.exprs_size (exprs l.parts.now) + 2

abbrev pub decreases-exprs_size : goal.decreases-exprs_size
decreases-exprs_size l = 4 * inside.exprs_size (exprs l.parts.now)

abbrev pub invariant-exprs_size-loop-part : goal.invariant-exprs_size-loop-part
invariant-exprs_size-loop-part l = l.total + exprs_size (layout_in l.around) (exprs (drop l.part-index l.parts)) ≡ exprs_size (layout_in l.around) (exprs l.parts)

abbrev pub decreases-changed : goal.decreases-changed
decreases-changed l = 4 * (inside.expr_size l.receiver.now + 1 + inside.exprs_size (exprs l.rest.now)) + 1

abbrev pub decreases-load_size : goal.decreases-load_size
decreases-load_size l = 4 * inside.expr_size l.e.now + 4

abbrev pub decreases-store_size : goal.decreases-store_size
decreases-store_size l = 4 * inside.expr_size l.e.now + 4

abbrev pub decreases-owned_size : goal.decreases-owned_size
decreases-owned_size l = 4 * inside.expr_size l.a.now + 4
