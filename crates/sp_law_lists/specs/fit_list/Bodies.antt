-- What is asked of the bodies of functions and hooks.
use Rattle.std.specs.Prelude.{◌≡◌, ℕ, Bool, true, false, ◌||◌, not, List, [], ◌∷◌, ◌++◌, Option, Some, None}
use Rattle.sp_words.specs.declared.words.HookName.{HookName}
use Rattle.sp_words.specs.declared.words.HookName.TheVariants.{Init, Done, Error, Finally}
use Rattle.sp_types.specs.declared.words.Word.TheVariants as word_is
use Rattle.sp_types.specs.Types.{Ty, word}
use Rattle.sp_typed_units.specs.declared.declarations.Function.{Function}
use Rattle.sp_typed_units.specs.declared.declarations.Hook.{Hook}
use Rattle.sp_typed_units.specs.declared.declarations.HookOf.{HookOf}
use Rattle.sp_typed_units.specs.declared.declarations.HookOf.TheVariants as hook_of
use Rattle.sp_typed_units.specs.declared.declarations.Parameter.{Parameter}
use Rattle.sp_typed_units.specs.declared.declarations.Typed.{Typed}
use Rattle.sp_meaning_states.specs.Types.{kind_of_type}
use Rattle.sp_code_meaning.specs.Layouts.{Layout}
use Rattle.sp_meaning.specs.Globals.{globals_of}
use Rattle.sp_code_meaning.specs.Calls.{function_layout, hook_layout}
use Rattle.sp_meaning.specs.Hooks.{is_foreach}
use Rattle.sp_code.specs.Shapes.{OfFunction, OfHook}
use Rattle.sp_code_programs.specs.programs.Routines.{hook_unit, parameter_kinds, slot_kinds, handed_kinds}
use Rattle.sp_law_lists.specs.fit_body.Passes.{StmtPasses}

-- where a body keeps what it sees that has so many parameters and no `$$`
abbrev pub parameter_layout : ℕ → Layout
parameter_layout own = record { own = own; current = 0; offset = None; first = own }

-- the body of a function
abbrev pub FunctionPasses : Typed → Function → Type 0
FunctionPasses list x =
    StmtPasses list (function_layout x) (parameter_kinds (globals_of list).ranges x.parameters ++ slot_kinds (globals_of list).ranges x.slots) None (OfFunction (kind_of_type (globals_of list).ranges x.result)) false x.body

-- a hook that each unit has
abbrev pub is_each_unit : HookName → Bool
is_each_unit Init = true
is_each_unit Done = true
is_each_unit Error = true
is_each_unit Finally = true
is_each_unit name = false

abbrev pub is_empty : List Parameter → Bool
is_empty [] = true
is_empty (x ∷ xs) = false

-- a body of a hook that each unit has is handed nothing
abbrev pub takes_nothing : HookOf → List Parameter → Bool
takes_nothing (hook_of.Unit u name) xs = not (is_each_unit name) || is_empty xs
takes_nothing h xs = true

abbrev pub type_or_void : Option Ty → Ty
type_or_void (Some t) = t
type_or_void None = word word_is.Void

-- what `$$` is in a body of a hook that is run once, whose field stores this type
abbrev pub current_of : HookOf → Option Ty → Ty
current_of (hook_of.Field u m) o = type_or_void o
current_of (hook_of.Anonymous u) o = type_or_void o
current_of h o = word word_is.Void

-- a body of a hook, whose field stores this type
abbrev pub HookBodyPasses : Typed → Option Ty → Hook → Type 0
HookBodyPasses list o x =
    StmtPasses list (hook_layout x) (handed_kinds (globals_of list).ranges (kind_of_type (globals_of list).ranges (current_of x.of o)) x ++ slot_kinds (globals_of list).ranges x.slots) (hook_unit x.of) (OfHook (is_foreach x.of)) false x.body

-- it is run once, and is handed what its hook hands on
pub record HookPasses (list : Typed) (o : Option Ty) (x : Hook) : Type 0 where
  pub once : is_foreach x.of ≡ false
  pub handed : takes_nothing x.of x.parameters ≡ true
  pub body : HookBodyPasses list o x
