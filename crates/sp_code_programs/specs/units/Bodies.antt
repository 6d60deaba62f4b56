-- The code of functions, of bodies of hooks and of the hooks that run them, and programs in which it stands.
use Rattle.std.specs.Prelude.{◌≡◌, ℕ, ◌+◌, List, [], ◌∷◌, ◌++◌, length, Some, slice_get, unwrap_or, if◌then◌else◌}
use Rattle.sp_value.specs.Val.{Val, void}
use Rattle.sp_methods.specs.Kinds.{Kind, Void}
use Rattle.sp_typed.specs.Stmts.{Stmt}
use Rattle.sp_typed_units.specs.declared.declarations.Function.{Function}
use Rattle.sp_typed_units.specs.declared.declarations.Hook.{Hook}
use Rattle.sp_typed_units.specs.declared.declarations.Typed.{Typed}
use Rattle.sp_meaning_states.specs.Scopes as called_is
use Rattle.sp_meaning_states.specs.Types.{zero_value, kind_of_type}
use Rattle.sp_meaning.specs.Globals.{Globals, globals_of}
use Rattle.sp_code_meaning.specs.Layouts.{Layout}
use Rattle.sp_meaning.specs.Calls.{zero_slots}
use Rattle.sp_code_meaning.specs.Calls.{function_layout, hook_layout}
use Rattle.sp_meaning.specs.Hooks.{has_current, is_foreach, told_count}
use Rattle.sp_code.specs.declared.instr.Instr.TheVariants as does
use Rattle.sp_code.specs.Machine.{Body, Plain}
use Rattle.sp_code.specs.Shapes.{Shape, push}
use Rattle.sp_code_programs.specs.exprs.Marked.{Marked, mark, constant, HasAt}
use Rattle.sp_code_programs.specs.exprs.Code.{kind_at}
use Rattle.sp_code_programs.specs.units.Code.{stmt_code}

-- How many values a hook hands to each of its bodies: `$$` and the offset of the field or the element, or the parameters.
abbrev pub handed : Hook → ℕ
handed x = if has_current x.of then 2 else length x.parameters

module _ (globals : Globals) where
  -- a body, and behind it what gives the value that it ends with
  abbrev pub body_code : Layout → Shape → ℕ → Val → Kind → Stmt → List Marked
  body_code layout s at ending k b = stmt_code globals layout s at at at b ++ constant s ending ∷ mark (push k s) does.Return ∷ []

  abbrev pub function_code : Shape → ℕ → Function → List Marked
  function_code s at x = body_code (function_layout x) s at (zero_value globals.ranges x.result) (kind_of_type globals.ranges x.result) x.body

  abbrev pub hook_code : Shape → ℕ → Hook → List Marked
  hook_code s at x = body_code (hook_layout x) s at void Void x.body

  -- the entries of a function and of a body of a hook of this name, whose code begins at an address
  abbrev pub function_entry : ℕ → Function → Body
  function_entry at x = record { start = at; called = called_is.Called.Function; takes = length x.parameters; fresh = zero_slots globals.ranges x.slots; name = []; told = 0 }

  abbrev pub hook_entry : ℕ → List ℕ → Hook → Body
  hook_entry at name x =
      record { start = at; called = called_is.Called.Hook (is_foreach x.of); takes = handed x; fresh = zero_slots globals.ranges x.slots; name = name; told = told_count x }

  -- a function has its entry at a number of the table of bodies, and its code, before which the shape is this, where the entry says
  pub record HasFunction (p : Plain) (n : ℕ) (x : Function) : Type 0 where
    pub start : ℕ
    pub shape : Shape
    pub listed : slice_get p.bodies n ≡ Some (function_entry start x)
    pub stands : HasAt p start (function_code shape start x)

  -- so has a body of a hook of this name
  pub record HasHook (p : Plain) (n : ℕ) (name : List ℕ) (x : Hook) : Type 0 where
    pub start : ℕ
    pub shape : Shape
    pub listed : slice_get p.bodies n ≡ Some (hook_entry start name x)
    pub stands : HasAt p start (hook_code shape start x)

-- the name of the hook of a body, by the names of all
abbrev pub name_at : List (List ℕ) → ℕ → List ℕ
name_at names h = unwrap_or (slice_get names h) []

-- A program has the bodies of a list of modules: those of functions first in its table, and behind them those of hooks.
pub record HasBodies (p : Plain) (hook_names : List (List ℕ)) (list : Typed) : Type 0 where
  pub functions : (f : ℕ) (x : Function) → slice_get list.functions f ≡ Some x → HasFunction (globals_of list) p f x
  pub hooks : (h : ℕ) (x : Hook) → slice_get list.hooks h ≡ Some x → HasHook (globals_of list) p (length list.functions + h) (name_at hook_names h) x

-- what a hook hands to a body is in these locals, the first value first
abbrev pub loads_code : Shape → List ℕ → List Marked
loads_code s [] = []
loads_code s (l ∷ ls) = mark s (does.Load l) ∷ loads_code (push (kind_at s.locals l) s) ls

-- the shape with these values on top
abbrev pub loaded : Shape → List ℕ → Shape
loaded s [] = s
loaded s (l ∷ ls) = loaded (push (kind_at s.locals l) s) ls

-- The bodies of a hook, one after another, by their numbers among all bodies of hooks; the table has so many functions before these.
-- The values are loaded anew for each body.
abbrev pub hooks_code : Shape → ℕ → List ℕ → List ℕ → List Marked
hooks_code s functions ls [] = []
hooks_code s functions ls (h ∷ hs) = loads_code s ls ++ mark (loaded s ls) (does.Hook (functions + h)) ∷ hooks_code s functions ls hs
