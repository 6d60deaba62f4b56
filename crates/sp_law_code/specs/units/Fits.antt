-- What the code of a unit asks of the kinds of its parts.
use Rattle.std.specs.Prelude.{ℕ, ◌+◌, false, List, [], ◌∷◌, length, Option, Some, None, slice_get}
use Rattle.sp_words.specs.declared.words.HookName.{HookName}
use Rattle.sp_words.specs.declared.words.HookName.TheVariants.{Init, Done, Error, Finally}
use Rattle.sp_methods.specs.Kinds.{Kind, Unsigned, Has}
use Rattle.sp_typed.specs.Exprs.{Expr}
use Rattle.sp_typed_units.specs.declared.declarations.Member.{Member}
use Rattle.sp_typed_units.specs.declared.declarations.Typed.{Typed}
use Rattle.sp_typed_units.specs.declared.declarations.Unit.{Unit as TypedUnit}
use Rattle.sp_typed_units.specs.declared.declarations.Variable.{Variable}
use Rattle.sp_typed_units.specs.Parts.{Part, Parts, field, no_parts, more_parts, parts}
use Rattle.sp_meaning_states.specs.Scopes as called_is
use Rattle.sp_meaning.specs.Globals.{globals_of}
use Rattle.sp_meaning.specs.Hooks.{hook_bodies, is_of_unit}
use Rattle.sp_meaning.specs.Integers.{IntegerForm, integer_field, last_order, module_order}
use Rattle.sp_code_meaning.specs.Units.{unit_layout}
use Rattle.sp_meaning.specs.Units.{first_value}
use Rattle.sp_code.specs.Machine.{Plain}
use Rattle.sp_code.specs.Shapes.{Shapes, OfHook, read_kind, IsMember, Enters}
use Rattle.sp_code_programs.specs.exprs.Code.{kind_of}
use Rattle.sp_code_programs.specs.units.Units.{slot_kinds, member_kind}
use Rattle.sp_law_code.specs.exprs.Parts.{Fits}

-- In a program with these shapes the unit u of a list of modules runs.
module _ (p : Plain) (shapes : Shapes) (list : Typed) (u : ℕ) where
  -- these bodies of hooks take operands of these kinds, the top first
  abbrev pub BodiesFit : List Kind → List ℕ → Type 0
  BodiesFit ins [] = Unit {0}
  BodiesFit ins (h ∷ hs) = Enters p shapes (length list.functions + h) (Some u) (called_is.Called.Hook false) (OfHook false) ins × BodiesFit ins hs

  -- a hook that each unit has
  abbrev pub UnitHookFits : HookName → Type 0
  UnitHookFits name = BodiesFit [] (hook_bodies (is_of_unit u name) list.hooks)

  -- variables begin with values of their kinds
  abbrev pub VariablesBegin : List Member → List Variable → Type 0
  VariablesBegin ms [] = Unit {0}
  VariablesBegin ms (v ∷ vs) =
      IsMember p shapes u v.member (member_kind (globals_of list).ranges (slice_get ms v.member)) × ((units : List ℕ) → Has units (member_kind (globals_of list).ranges (slice_get ms v.member)) (first_value (globals_of list).ranges (slice_get ms v.member)))
      × VariablesBegin ms vs

  -- and get such values
  abbrev pub ValueFits : ℕ → Option Expr → Type 0
  ValueFits m (Some e) = Fits p shapes (globals_of list) unit_layout slot_kinds (Some u) e × IsMember p shapes u m (kind_of (globals_of list) unit_layout e)
  ValueFits m None = Unit {0}

  abbrev pub VariablesFit : List Variable → Type 0
  VariablesFit [] = Unit {0}
  VariablesFit (v ∷ vs) = ValueFits v.member v.value × VariablesFit vs

  -- a member of a kind, if a field has one
  abbrev pub StoreFits : Option ℕ → Kind → Type 0
  StoreFits (Some m) k = IsMember p shapes u m k
  StoreFits None k = Unit {0}

  -- an integer is stored, and the bodies of its hooks take its offset and its value
  abbrev pub IntegerFits : Option IntegerForm → Option ℕ → List ℕ → Type 0
  IntegerFits (Some form) member hs = StoreFits member (read_kind form.signed) × BodiesFit (Unsigned ∷ read_kind form.signed ∷ []) hs
  IntegerFits None member hs = Unit {0}

  abbrev pub PartFits : Option ℕ → Part → Type 0
  PartFits o (field f) = IntegerFits (integer_field o f) f.member f.hooks
  PartFits o x = Unit {0}

  abbrev pub PartsFit : Option ℕ → Parts → Type 0
  PartsFit o no_parts = Unit {0}
  PartsFit o (more_parts x xs) = PartFits o x × PartsFit o xs

  pub record UnitFits (x : TypedUnit) : Type 0 where
    pub begins : VariablesBegin x.members x.variables
    pub variables : VariablesFit x.variables
    pub parts : PartsFit (last_order (module_order x.«module» None list.orders) x.orders) (parts x.parts)
    pub init : UnitHookFits Init
    pub done : UnitHookFits Done
    pub error : UnitHookFits Error
    pub finally : UnitHookFits Finally
