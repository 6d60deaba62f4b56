-- The byte orders of modules, as a table has them.
use Rattle.std.specs.Prelude.{ℕ, ◌≡◌, nat_eq, List, Option, Some, None}
use Rattle.indexmap.specs.IndexMap.{get}
use Rattle.sp_typed_units.specs.declared.declarations.OrderProperty.{OrderProperty}
use Rattle.sp_meaning.specs.Integers.{module_order}
use Rattle.sp_lower_hooks.specs.declared.orders.Orders.{Orders}

abbrev pub or_none : Option (Option ℕ) → Option ℕ
or_none None = None
or_none (Some o) = o

-- the order of a module
abbrev pub order_in : Orders → ℕ → Option ℕ
order_in t m = or_none (get nat_eq t.of m)

abbrev pub AreOrders : List OrderProperty → Orders → Type 0
AreOrders list t = (m : ℕ) → order_in t m ≡ module_order m None list
