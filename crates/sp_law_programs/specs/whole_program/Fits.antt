-- What a list of modules must give so that its program is sound, counts its turns, and starts each unit: all that is asked of the list, in
-- one place. What fits is said of the program's tables, which are those of the list.
use Rattle.std.specs.Prelude.{◌≡◌, ℕ, true, false, List, [], ◌∷◌, Option, Some, None, slice_get}
use Rattle.sp_words.specs.declared.words.HookName.{HookName}
use Rattle.sp_methods.specs.Kinds.{Kind}
use Rattle.sp_typed.specs.Exprs.{Expr}
use Rattle.sp_typed_units.specs.declared.declarations.Function.{Function}
use Rattle.sp_typed_units.specs.declared.declarations.Hook.{Hook}
use Rattle.sp_typed_units.specs.declared.declarations.Member.{Member}
use Rattle.sp_typed_units.specs.declared.declarations.Typed.{Typed}
use Rattle.sp_typed_units.specs.declared.declarations.Unit.{Unit as TypedUnit}
use Rattle.sp_typed_units.specs.declared.declarations.Variable.{Variable}
use Rattle.sp_typed_units.specs.Parts.{Part, Parts, field, no_parts, more_parts, parts}
use Rattle.sp_meaning_states.specs.Types.{kind_of_type}
use Rattle.sp_meaning.specs.Globals.{globals_of}
use Rattle.sp_meaning.specs.Hooks.{has_current, is_foreach, is_of_unit}
use Rattle.sp_meaning.specs.Integers.{IntegerForm, integer_field, last_order, module_order}
use Rattle.sp_code_meaning.specs.Units.{unit_layout}
use Rattle.sp_code.specs.Machine.{Plain}
use Rattle.sp_code.specs.Shapes.{Shapes, read_kind}
use Rattle.sp_code_programs.specs.exprs.Code.{kind_of, kind_at}
use Rattle.sp_code_programs.specs.units.Units.{slot_kinds}
use Rattle.sp_code_programs.specs.programs.Routines.{hook_unit}
use Rattle.sp_code_programs.specs.programs.Currents.{currents_of}
use Rattle.sp_code_programs.specs.programs.Whole.{IsProgramOf}
use Rattle.sp_law_code.specs.exprs.Parts as expressions
use Rattle.sp_law_programs.specs.program_laid.Fits.{BodiesFit}
use Rattle.sp_law_programs.specs.program_laid.Places.{StmtChangesPlaces}
use Rattle.sp_law_meaning.specs.Standing.{ExprStands, BodiesStand}

-- what bodies change are places
pub record BodiesChangePlaces (list : Typed) : Type 0 where
  pub functions : (f : ℕ) (x : Function) → slice_get list.functions f ≡ Some x → StmtChangesPlaces x.body
  pub hooks : (h : ℕ) (x : Hook) → slice_get list.hooks h ≡ Some x → StmtChangesPlaces x.body

module _ (list : Typed) where
  -- the hooks that each unit has hand on nothing
  abbrev pub UnitHooksTakeNothing : Type 0
  UnitHooksTakeNothing = (h u : ℕ) (name : HookName) (x : Hook) → slice_get list.hooks h ≡ Some x → is_of_unit u name x.of ≡ true → x.parameters ≡ []

  -- a body of a hook of a field of the unit u, which is handed `$$` and an offset
  pub record IsOfField (u h : ℕ) : Type 0 where
    pub body : Hook
    pub listed : slice_get list.hooks h ≡ Some body
    pub unit : hook_unit body.of ≡ Some u
    pub current : has_current body.of ≡ true

  -- one that is run once for its field, where `$$` is of this kind
  pub record IsOfValue (k : Kind) (u h : ℕ) : Type 0 where
    pub is : IsOfField u h
    pub once : is_foreach is.body.of ≡ false
    pub kind : kind_at (currents_of list) h ≡ k

  abbrev pub AreOfField : ℕ → List ℕ → Type 0
  AreOfField u [] = Unit {0}
  AreOfField u (h ∷ hs) = IsOfField u h × AreOfField u hs

  abbrev pub AreOfValue : Kind → ℕ → List ℕ → Type 0
  AreOfValue k u [] = Unit {0}
  AreOfValue k u (h ∷ hs) = IsOfValue k u h × AreOfValue k u hs

  -- the unit has a member of a kind
  abbrev pub HasMember : TypedUnit → ℕ → Kind → Type 0
  HasMember x m k = (y : Member) × (slice_get x.members m ≡ Some y) × (kind_of_type (globals_of list).ranges y.ty ≡ k)

  abbrev pub StoreFits : TypedUnit → Option ℕ → Kind → Type 0
  StoreFits x (Some m) k = HasMember x m k
  StoreFits x None k = Unit {0}

  -- An integer is stored in a member of its kind, and the bodies of its hooks see it. Of other fields nothing more is asked.
  abbrev pub IntegerFits : ℕ → TypedUnit → Option IntegerForm → Option ℕ → List ℕ → Type 0
  IntegerFits u x (Some form) member hs = StoreFits x member (read_kind form.signed) × AreOfValue (read_kind form.signed) u hs
  IntegerFits u x None member hs = Unit {0}

  abbrev pub PartFits : ℕ → TypedUnit → Option ℕ → Part → Type 0
  PartFits u x o (field f) = AreOfField u f.hooks × IntegerFits u x (integer_field o f) f.member f.hooks
  PartFits u x o p = Unit {0}

  abbrev pub PartsFit : ℕ → TypedUnit → Option ℕ → Parts → Type 0
  PartsFit u x o no_parts = Unit {0}
  PartsFit u x o (more_parts p ps) = PartFits u x o p × PartsFit u x o ps

  module _ (p : Plain) (shapes : Shapes) where
    -- the value that a variable has of its own is of the kind of its member
    abbrev pub ValueFits : ℕ → TypedUnit → ℕ → Option Expr → Type 0
    ValueFits u x m (Some e) =
        expressions.Fits p shapes (globals_of list) unit_layout slot_kinds (Some u) e × ExprStands false list.functions e × HasMember x m (kind_of (globals_of list) unit_layout e)
    ValueFits u x m None = Unit {0}

    abbrev pub VariablesFit : ℕ → TypedUnit → List Variable → Type 0
    VariablesFit u x [] = Unit {0}
    VariablesFit u x (v ∷ vs) = ((y : Member) × (slice_get x.members v.member ≡ Some y)) × ValueFits u x v.member v.value × VariablesFit u x vs

    -- the unit u
    pub record UnitFits (u : ℕ) (x : TypedUnit) : Type 0 where
      pub variables : VariablesFit u x x.variables
      pub parts : PartsFit u x (last_order (module_order x.«module» None list.orders) x.orders) (parts x.parts)

    -- a whole list
    pub record ListFits : Type 0 where
      pub bodies : BodiesFit p shapes (currents_of list) list
      pub places : BodiesChangePlaces list
      pub arguments : BodiesStand list
      pub events : UnitHooksTakeNothing
      pub units : (u : ℕ) (x : TypedUnit) → slice_get list.units u ≡ Some x → UnitFits u x

-- which fits in whatever is its program
abbrev pub AlwaysFits : Typed → Type 0
AlwaysFits list = (p : Plain) (shapes : Shapes) → IsProgramOf list p shapes → ListFits list p shapes
