use Rattle.std.proofs.Common.{refl}
use Rattle.sp_rule_lists.specs.Lists.{all_tests}
use Rattle.sp_rule_lists.specs.Bodies.{order_tests}
use Rattle.sp_rule_lists.proofs.Checked.{row_step}
use Rattle.sp_rule_lists.proofs.units.note_orders.Goals as goal

pub loop-order-preserved : goal.loop-order-preserved
loop-order-preserved g c =
    row_step (all_tests (order_tests (g.F.Facts.known c.args.facts.now))) (order_tests (g.F.Facts.known c.args.facts.now)) (λ x xs. refl) c.args.all.now c.loop-order.order-index c.order-item.result c.loop-order.least c.note_order.new.least _ c.loop-order-test.true c.order-item.is c.in_ok-note_order.ensures c.loop-order.invariant
