use Rattle.std.proofs.Common.{refl}
use Rattle.sp_rule_lists.specs.Lists.{all_tests}
use Rattle.sp_rule_lists.specs.Names.{order_names}
use Rattle.sp_rule_lists.proofs.Checked.{row_step}
use Rattle.sp_rule_lists.proofs.names.note_orders.Goals as goal

pub loop-order-preserved : goal.loop-order-preserved
loop-order-preserved c =
    row_step (all_tests order_names) (order_names) (λ x xs. refl) c.args.all.now c.loop-order.order-index c.order-item.result c.loop-order.least c.note_expr_names.new.least _ c.loop-order-test.true c.order-item.is c.note_expr_names.ensures c.loop-order.invariant
