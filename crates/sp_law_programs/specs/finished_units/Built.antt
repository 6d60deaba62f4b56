-- Units of integers that are built of what has a meaning, and programs in which the bodies of hooks fit.
use Rattle.std.specs.Prelude.{◌≡◌, ℕ, ◌+◌, true, false, List, [], ◌∷◌, length, Option, Some, None, slice_get}
use Rattle.sp_words.specs.declared.words.HookName.{HookName}
use Rattle.sp_methods.specs.Kinds.{Kind}
use Rattle.sp_typed.specs.Exprs.{Expr}
use Rattle.sp_typed_units.specs.declared.declarations.Hook.{Hook}
use Rattle.sp_typed_units.specs.declared.declarations.Typed.{Typed}
use Rattle.sp_typed_units.specs.declared.declarations.Unit.{Unit as TypedUnit}
use Rattle.sp_typed_units.specs.declared.declarations.Variable.{Variable}
use Rattle.sp_typed_units.specs.Parts.{Part, Parts, field, no_parts, more_parts, parts}
use Rattle.sp_meaning_states.specs.Scopes as called_is
use Rattle.sp_meaning.specs.Globals.{globals_of}
use Rattle.sp_meaning.specs.Hooks.{is_foreach, is_of_unit}
use Rattle.sp_meaning.specs.Integers.{integer_field, last_order, module_order}
use Rattle.sp_meaning.specs.Units.{is_plain}
use Rattle.sp_code.specs.Machine.{Plain}
use Rattle.sp_code.specs.Shapes.{Shapes, OfHook, Enters}
use Rattle.sp_law_programs.specs.finished_bodies.Built.{IsThere, ExprIsBuilt, StmtIsBuilt}
use Rattle.sp_law_programs.specs.finished_bodies.Finished.{HookFits}

module _ (list : Typed) where
  -- a body of a hook that is built of what has a meaning
  abbrev pub HookIsBuilt : Hook → Type 0
  HookIsBuilt x = StmtIsBuilt (globals_of list) list.functions x.body

  -- Each of these bodies of hooks is in the list and is so built, and none is of a foreach hook.
  abbrev pub HooksAreBuilt : List ℕ → Type 0
  HooksAreBuilt [] = Unit {0}
  HooksAreBuilt (h ∷ hs) = ((x : Hook) × (slice_get list.hooks h ≡ Some x) × (is_foreach x.of ≡ false) × HookIsBuilt x) × HooksAreBuilt hs

  -- the value that a variable has of its own
  abbrev pub ValueIsBuilt : Option Expr → Type 0
  ValueIsBuilt (Some e) = ExprIsBuilt (globals_of list) list.functions e
  ValueIsBuilt None = Unit {0}

  abbrev pub VariablesAreBuilt : List Variable → Type 0
  VariablesAreBuilt [] = Unit {0}
  VariablesAreBuilt (v ∷ vs) = ValueIsBuilt v.value × VariablesAreBuilt vs

  -- a part that is an integer, where this is the byte order of the unit, with its hooks
  abbrev pub PartIsBuilt : Option ℕ → Part → Type 0
  PartIsBuilt o (field f) = IsThere (integer_field o f) × HooksAreBuilt f.hooks
  PartIsBuilt o x = ⊥

  abbrev pub PartsAreBuilt : Option ℕ → Parts → Type 0
  PartsAreBuilt o no_parts = Unit {0}
  PartsAreBuilt o (more_parts x xs) = PartIsBuilt o x × PartsAreBuilt o xs

  -- The unit u is plain, and all its parts are integers; the values of its variables, the hooks of its parts and those that each unit has
  -- are built of what has a meaning.
  pub record UnitIsBuilt (u : ℕ) (x : TypedUnit) : Type 0 where
    pub plain : is_plain x.filter x.sinks ≡ true
    pub variables : VariablesAreBuilt x.variables
    pub parts : PartsAreBuilt (last_order (module_order x.«module» None list.orders) x.orders) (parts x.parts)
    pub hooks : (name : HookName) (h : ℕ) (y : Hook) → slice_get list.hooks h ≡ Some y → is_of_unit u name y.of ≡ true → HookIsBuilt y

-- In a program with these shapes each body of a hook of the list that is so built fits as it is run.
abbrev pub HooksFit : Plain → Shapes → Typed → Type 0
HooksFit p shapes list =
    (h : ℕ) (x : Hook) (u : Option ℕ) (ins : List Kind) → slice_get list.hooks h ≡ Some x → HookIsBuilt list x →
    Enters p shapes (length list.functions + h) u (called_is.Called.Hook (is_foreach x.of)) (OfHook (is_foreach x.of)) ins → HookFits p shapes list x u ins
