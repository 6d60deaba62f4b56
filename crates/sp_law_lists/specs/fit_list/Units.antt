-- What is asked of units.
use Rattle.std.specs.Prelude.{◌≡◌, ℕ, ◌==◌, Bool, true, false, ◌&&◌, List, [], ◌∷◌, Option, Some, None, slice_get}
use Rattle.sp_types.specs.Types.{Ty, same}
use Rattle.sp_typed.specs.Exprs.{Expr, type_of}
use Rattle.sp_typed_units.specs.declared.declarations.Hook.{Hook}
use Rattle.sp_typed_units.specs.declared.declarations.HookOf.{HookOf}
use Rattle.sp_typed_units.specs.declared.declarations.HookOf.TheVariants as hook_of
use Rattle.sp_typed_units.specs.declared.declarations.Member.{Member}
use Rattle.sp_typed_units.specs.declared.declarations.Typed.{Typed}
use Rattle.sp_typed_units.specs.declared.declarations.Unit.{Unit as TypedUnit}
use Rattle.sp_typed_units.specs.declared.declarations.Variable.{Variable}
use Rattle.sp_typed_units.specs.declared.items.Field.{Field}
use Rattle.sp_typed_units.specs.Parts.{Part, Parts, field, no_parts, more_parts, parts}
use Rattle.sp_meaning.specs.Integers.{IntegerForm, integer_field, last_order, module_order}
use Rattle.sp_meaning.specs.Units.{is_plain}
use Rattle.sp_code_meaning.specs.Units.{unit_layout}
use Rattle.sp_law_lists.specs.fit_expr.Around.{Around}
use Rattle.sp_law_lists.specs.fit_expr.Sorts.{Unsigned, Signed}
use Rattle.sp_law_lists.specs.fit_expr.Test.{is_sort, expr_passes}
use Rattle.sp_law_lists.specs.fit_list.Locals.{unit_types}
use Rattle.sp_law_lists.specs.fit_list.Stored.{type_for}

-- an integer that is read with a sign or without is of a type
abbrev pub is_read : (signed : Bool) → Ty → Bool
is_read true t = is_sort t Signed
is_read false t = is_sort t Unsigned

abbrev pub stored_passes : Option Member → (signed : Bool) → Bool
stored_passes (Some y) signed = is_read signed y.ty
stored_passes None signed = false

-- the member that stores it
abbrev pub store_passes : List Member → Option ℕ → (signed : Bool) → Bool
store_passes members (Some m) signed = stored_passes (slice_get members m) signed
store_passes members None signed = true

-- a hook of a field of a unit, which is run once
abbrev pub is_own : ℕ → HookOf → Bool
is_own u (hook_of.Field v m) = u == v
is_own u (hook_of.Anonymous v) = u == v
is_own u h = false

abbrev pub value_is : Option Ty → (signed : Bool) → Bool
value_is (Some t) signed = is_read signed t
value_is None signed = false

-- a body of a hook is one of a field of the unit u that reads such integers
abbrev pub body_passes : Option Hook → Option Ty → ℕ → (signed : Bool) → Bool
body_passes (Some x) o u signed = is_own u x.of && value_is o signed
body_passes None o u signed = false

module _ (list : Typed) (u : ℕ) where
  abbrev pub bodies_pass : (signed : Bool) → List ℕ → Bool
  bodies_pass signed [] = true
  bodies_pass signed (h ∷ hs) = body_passes (slice_get list.hooks h) (type_for list h) u signed && bodies_pass signed hs

  module _ (members : List Member) where
    -- a field of integers with a sign or without
    abbrev pub form_passes : (signed : Bool) → Field → Bool
    form_passes signed f = store_passes members f.member signed && bodies_pass signed f.hooks

    abbrev pub field_passes : Option IntegerForm → Field → Bool
    field_passes (Some form) f = form_passes form.signed f
    field_passes None f = false

    -- parts, where this is the byte order of the unit
    abbrev pub part_passes : Option ℕ → Part → Bool
    part_passes o (field f) = field_passes (integer_field o f) f
    part_passes o p = false

    abbrev pub parts_pass : Option ℕ → Parts → Bool
    parts_pass o no_parts = true
    parts_pass o (more_parts p ps) = part_passes o p && parts_pass o ps

abbrev pub has_member : Option Member → Bool
has_member (Some y) = true
has_member None = false

-- a member of a type
abbrev pub member_is_of : Option Member → Ty → Bool
member_is_of (Some y) t = same y.ty t
member_is_of None t = false

module _ (around : Around) (members : List Member) where
  -- the value that a variable has of its own
  abbrev pub value_passes : ℕ → Option Expr → Bool
  value_passes m (Some e) = expr_passes around e && member_is_of (slice_get members m) (type_of e)
  value_passes m None = true

  abbrev pub variables_pass : List Variable → Bool
  variables_pass [] = true
  variables_pass (v ∷ vs) = has_member (slice_get members v.member) && value_passes v.member v.value && variables_pass vs

-- what stands round the expressions of the unit u of a list
abbrev pub unit_around : Typed → ℕ → Around
unit_around list u = record { list = list; places = unit_layout; locals = unit_types; unit = Some u }

-- the unit u of a list
pub record UnitPasses (list : Typed) (u : ℕ) (x : TypedUnit) : Type 0 where
  pub plain : is_plain x.filter x.sinks ≡ true
  pub variables : variables_pass (unit_around list u) x.members x.variables ≡ true
  pub parts : parts_pass list u x.members (last_order (module_order x.«module» None list.orders) x.orders) (parts x.parts) ≡ true
