use Rattle.std.proofs.Common.{arith}
use Rattle.sp_rule_bodies.proofs.Falls.{expr_falls}
use Rattle.sp_rule_bodies.proofs.Swept.{nodes_step}
use Rattle.sp_rule_bodies.proofs.sweep.+expr.Goals as goal

pub note_exprs-note_expr-requires : goal.note_exprs-note_expr-requires
note_exprs-note_expr-requires g t c κs h =
    let small = expr_falls c.args.parts.now c.loop-e.e-index c.e-item.result (omega arith) c.e-item.is in
    (omega arith, h)

pub note_exprs-loop-e-preserved : goal.note_exprs-loop-e-preserved
note_exprs-loop-e-preserved g t c =
    nodes_step (g.F.Facts.known c.args.facts.now) c.args.owner c.args.parts.now c.loop-e.e-index c.e-item.result c.loop-e.least c.note_expr.new.least _ c.loop-e-test.true c.e-item.is c.in_ok-note_expr.ensures c.loop-e.invariant
