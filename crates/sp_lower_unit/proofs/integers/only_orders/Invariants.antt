use Rattle.std.proofs.Common.{◌≡◌, drop}
use Rattle.sp_meaning.specs.Integers.{only_orders}
use Rattle.sp_lower_unit.proofs.integers.only_orders.Given as goal

abbrev pub invariant-loop-attribute : goal.invariant-loop-attribute
invariant-loop-attribute l = only_orders l.last (drop l.attribute-index l.attributes) ≡ only_orders l.fn.order l.attributes
