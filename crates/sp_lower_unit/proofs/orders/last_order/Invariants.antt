use Rattle.std.proofs.Common.{◌≡◌, drop}
use Rattle.sp_meaning.specs.Integers.{last_order}
use Rattle.sp_lower_unit.proofs.orders.last_order.Given as goal

abbrev pub invariant-loop-property : goal.invariant-loop-property
invariant-loop-property l = last_order l.last (drop l.property-index l.properties) ≡ last_order l.fn.order l.properties
