use Rattle.std.proofs.Common.{ℕ, ◌≡◌, None, drop}
use Rattle.sp_meaning.specs.Integers.{module_order}
use Rattle.sp_lower_hooks.specs.inside.Orders.{order_in}
use Rattle.sp_lower_hooks.proofs.orders.all_orders.Given as goal

abbrev pub invariant-loop-i : goal.invariant-loop-i
invariant-loop-i l = (m : ℕ) → module_order m (order_in l.orders m) (drop l.i l.list) ≡ module_order m None l.list
