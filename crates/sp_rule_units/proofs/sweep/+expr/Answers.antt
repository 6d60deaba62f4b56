use Rattle.std.proofs.Common.{arith}
use Rattle.sp_rule_units.specs.Filters.{node_tests}
use Rattle.sp_rule_units.proofs.Falls.{expr_falls}
use Rattle.sp_rule_units.proofs.Steps.{nodes_step}
use Rattle.sp_rule_units.proofs.sweep.+expr.Goals as goal

pub note_exprs-note_expr-requires : goal.note_exprs-note_expr-requires
note_exprs-note_expr-requires t c =
    let small = expr_falls c.args.parts.now c.loop-e.e-index c.e-item.result (omega arith) c.e-item.is in
    (omega arith, tt)

pub note_exprs-loop-e-preserved : goal.note_exprs-loop-e-preserved
note_exprs-loop-e-preserved t c =
    nodes_step (node_tests c.args.units.now c.args.here) c.args.parts.now c.loop-e.e-index c.e-item.result c.loop-e.least c.note_expr.new.least _ c.loop-e-test.true c.e-item.is c.note_expr.ensures c.loop-e.invariant
