-- Units whose variables and fields store what their rows have for their members.
use Rattle.std.specs.Prelude.{◌≡◌, ℕ, Bool, true, ◌&&◌, List, [], ◌∷◌, Option, Some, None, slice_get}
use Rattle.sp_typed.specs.Exprs.{Expr, type_of}
use Rattle.sp_typed_units.specs.declared.declarations.Member.{Member}
use Rattle.sp_typed_units.specs.declared.declarations.Typed.{Typed}
use Rattle.sp_typed_units.specs.declared.declarations.Unit.{Unit as TypedUnit}
use Rattle.sp_typed_units.specs.declared.declarations.Variable.{Variable}
use Rattle.sp_typed_units.specs.Parts.{parts}
use Rattle.sp_meaning.specs.Integers.{last_order, module_order}
use Rattle.sp_law_lists.specs.fit_list.Units.{has_member, member_is_of, parts_pass}

-- a value, if there is one, is of the type of a member
abbrev pub value_stored : Option Member → Option Expr → Bool
value_stored o (Some e) = member_is_of o (type_of e)
value_stored o None = true

-- each variable has its member, of the type of its value
abbrev pub variables_stored : List Member → List Variable → Bool
variables_stored members [] = true
variables_stored members (v ∷ vs) = has_member (slice_get members v.member) && (value_stored (slice_get members v.member) v.value && variables_stored members vs)

-- The variables of the unit u are so; its fields store integers in members of integers, and the bodies of their hooks are ones of this
-- unit that see such integers.
pub record UnitStores (list : Typed) (u : ℕ) (x : TypedUnit) : Type 0 where
  pub variables : variables_stored x.members x.variables ≡ true
  pub parts : parts_pass list u x.members (last_order (module_order x.«module» None list.orders) x.orders) (parts x.parts) ≡ true
