use Rattle.std.proofs.Common.{◌+◌, ◌*◌, drop}
use Rattle.sp_typed.specs.inside.ExprCodes.{expr_size, exprs_size}
use Rattle.sp_typed.specs.Exprs.{exprs}
use Rattle.sp_emit.specs.Emitted.{Emitted}
use Rattle.sp_lower_expr.specs.Literals.{AllLiteralsFit}
use Rattle.sp_lower_expr.specs.Added.{AddsExprs}
use Rattle.sp_lower_expr.proofs.nodes.+expr.Given as goal

abbrev pub decreases-expr : goal.decreases-expr
decreases-expr l = 4 * expr_size l.e.now + 3

abbrev pub decreases-one : goal.decreases-one
decreases-one l = 4 * expr_size l.part.now + 4

abbrev pub decreases-and : goal.decreases-and
decreases-and l = 4 * (expr_size l.a.now + expr_size l.b.now) + 4

abbrev pub decreases-or : goal.decreases-or
decreases-or l = 4 * (expr_size l.a.now + expr_size l.b.now) + 4

abbrev pub decreases-two : goal.decreases-two
decreases-two l = 4 * (expr_size l.a.now + expr_size l.b.now) + 5

abbrev pub decreases-three : goal.decreases-three
decreases-three l = 4 * (expr_size l.c.now + expr_size l.a.now + expr_size l.b.now) + 4

abbrev pub decreases-many : goal.decreases-many
decreases-many l = 4 * exprs_size (exprs l.parts.now) + 2

abbrev pub decreases-exprs : goal.decreases-exprs
decreases-exprs l = 4 * exprs_size (exprs l.parts.now)

abbrev pub invariant-exprs-loop-part : goal.invariant-exprs-loop-part
invariant-exprs-loop-part l = record {
  literals : AllLiteralsFit (exprs (drop l.part-index l.parts));
  code : (x : Emitted) → AddsExprs l.around l.out x (exprs (drop l.part-index l.parts)) → AddsExprs l.around l.fn.out x (exprs l.parts);
}

abbrev pub decreases-changed : goal.decreases-changed
decreases-changed l = 4 * (expr_size l.receiver.now + 1 + exprs_size (exprs l.rest.now)) + 1

abbrev pub decreases-load : goal.decreases-load
decreases-load l = 4 * expr_size l.e.now + 4

abbrev pub decreases-store : goal.decreases-store
decreases-store l = 4 * expr_size l.e.now + 4

abbrev pub decreases-keep : goal.decreases-keep
decreases-keep l = 4 * expr_size l.a.now + 4

abbrev pub decreases-owned : goal.decreases-owned
decreases-owned l = 4 * expr_size l.a.now + 4
