use Rattle.std.proofs.Common.{◌≡◌, ◌+◌, ◌*◌, drop}
use Rattle.sp_typed.specs.Exprs.{exprs}
use Rattle.sp_typed.specs.inside.ExprCodes.{expr_size, exprs_size}
use Rattle.sp_typed.specs.Nodes.{all_nodes}
use Rattle.sp_rule_bodies.specs.Sweeps.{swept_nodes}
use Rattle.sp_rule_bodies.proofs.sweep.+expr.Given as goal

abbrev pub decreases-note_expr : goal.decreases-note_expr
decreases-note_expr g l = 2 * expr_size l.e.now + 1

abbrev pub decreases-note_exprs : goal.decreases-note_exprs
decreases-note_exprs g l = 2 * exprs_size (exprs l.parts.now)

abbrev pub invariant-note_exprs-loop-e : goal.invariant-note_exprs-loop-e
invariant-note_exprs-loop-e g l =
    swept_nodes (g.F.Facts.known l.facts) l.owner l.least (all_nodes (exprs (drop l.e-index l.parts))) ≡ swept_nodes (g.F.Facts.known l.facts) l.owner l.fn.least (all_nodes (exprs l.parts))
