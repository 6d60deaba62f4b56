use Rattle.std.proofs.Common.{ap, None, ◌∙◌}
use Rattle.std.proofs.lemmas.Result.{IfOk-weaker}
use Rattle.sp_meaning.specs.Integers.{module_order}
use Rattle.sp_lower_hooks.specs.inside.Orders.{AreOrders}
use Rattle.sp_lower_hooks.proofs.orders.orders_of.Goals as goal

pub returns : goal.returns
returns c =
    IfOk-weaker c.all_orders.result (AreOrders c.as_slice.result.now) (AreOrders c.args.list.now.orders) (λ t are m. are m ∙ ap (module_order m None) c.as_slice.ensures) c.all_orders.ensures
