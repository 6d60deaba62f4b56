-- Functions and bodies of hooks as they are laid out, before they have an address.
use Rattle.std.specs.Prelude.{ℕ, ◌+◌, suc, List, [], ◌∷◌, ◌++◌, Option, Some, None, if◌then◌else◌}
use Rattle.sp_value.specs.Val.{Val, void}
use Rattle.sp_methods.specs.Kinds.{Kind, Void, Unsigned}
use Rattle.sp_types.specs.Types.{Ty}
use Rattle.sp_typed.specs.Stmts.{Stmt}
use Rattle.sp_typed_units.specs.declared.declarations.Parameter.{Parameter}
use Rattle.sp_typed_units.specs.declared.declarations.Function.{Function}
use Rattle.sp_typed_units.specs.declared.declarations.Hook.{Hook}
use Rattle.sp_typed_units.specs.declared.declarations.HookOf.{HookOf}
use Rattle.sp_typed_units.specs.declared.declarations.HookOf.TheVariants as hook_of
use Rattle.sp_typed_units.specs.declared.declarations.Typed.{Typed}
use Rattle.sp_meaning_states.specs.Types.{zero_value, kind_of_type}
use Rattle.sp_meaning.specs.Globals.{Globals, globals_of}
use Rattle.sp_code_meaning.specs.Layouts.{Layout}
use Rattle.sp_code_meaning.specs.Calls.{function_layout, hook_layout}
use Rattle.sp_meaning.specs.Hooks.{has_current, is_foreach}
use Rattle.sp_code.specs.Machine.{Body}
use Rattle.sp_code.specs.Shapes.{Shape, BodyKinds, OfFunction, OfHook, body_shape}
use Rattle.sp_code_programs.specs.exprs.Marked.{Marked}
use Rattle.sp_code_programs.specs.exprs.Code.{kind_at}
use Rattle.sp_code_programs.specs.units.Sizes.{stmt_size}
use Rattle.sp_code_programs.specs.units.Bodies.{body_code, function_entry, hook_entry, name_at}

-- the unit of which a hook is, which is the one at hand in its bodies
abbrev pub hook_unit : HookOf → Option ℕ
hook_unit hook_of.Nothing = None
hook_unit (hook_of.Unit u h) = Some u
hook_unit (hook_of.Field u m) = Some u
hook_unit (hook_of.Elements u m) = Some u
hook_unit (hook_of.Anonymous u) = Some u
hook_unit (hook_of.AnonymousElements u) = Some u

-- the kinds of parameters, the first one first, where bitfields have so many ranges
abbrev pub parameter_kinds : List ℕ → List Parameter → List Kind
parameter_kinds ranges [] = []
parameter_kinds ranges (x ∷ xs) = kind_of_type ranges x.ty ∷ parameter_kinds ranges xs

-- the kinds of slots of these types
abbrev pub slot_kinds : List ℕ → List Ty → List Kind
slot_kinds ranges [] = []
slot_kinds ranges (t ∷ ts) = kind_of_type ranges t ∷ slot_kinds ranges ts

-- The kinds of what a hook hands to each of its bodies, the first value first: `$$`, which is of this kind, and the offset of the field
-- or the element; or the parameters.
abbrev pub handed_kinds : List ℕ → Kind → Hook → List Kind
handed_kinds ranges current x = if has_current x.of then current ∷ Unsigned ∷ [] else parameter_kinds ranges x.parameters

-- A function or a body of a hook: its entry, but for the address of its code; the shape before its first instruction, which has the
-- kinds of all its locals; where it keeps what it sees; its statement; and the value that it ends with, and the kind of that.
pub record Routine : Type 0 where
  pub entry : Body
  pub shape : Shape
  pub layout : Layout
  pub body : Stmt
  pub ending : Val
  pub result : Kind

-- how many instructions its code has
abbrev pub routine_size : Routine → ℕ
routine_size r = stmt_size r.layout r.body + (1 + 1)

-- its entry, where its code begins at an address
abbrev pub entry_at : ℕ → Routine → Body
entry_at at r = record r.entry { start = at }

-- the kinds of its locals, as the table of bodies has them
abbrev pub local_kinds : Routine → BodyKinds
local_kinds r = record { locals = r.shape.locals }

module _ (globals : Globals) where
  -- its code at an address
  abbrev pub routine_code : ℕ → Routine → List Marked
  routine_code at r = body_code globals r.layout r.shape at r.ending r.result r.body

  -- A function may be called from anywhere, so the unit at hand isn't known in it.
  abbrev pub function_shape : Function → Shape
  function_shape x =
      body_shape None (OfFunction (kind_of_type globals.ranges x.result)) (parameter_kinds globals.ranges x.parameters ++ slot_kinds globals.ranges x.slots)

  -- A body of a hook runs for a unit. Where it has a `$$`, that is of this kind.
  abbrev pub hook_shape : Kind → Hook → Shape
  hook_shape current x =
      body_shape (hook_unit x.of) (OfHook (is_foreach x.of)) (handed_kinds globals.ranges current x ++ slot_kinds globals.ranges x.slots)

  -- a function ends with the first value of the type of its result
  abbrev pub function_routine : Function → Routine
  function_routine x =
      record {
        entry = function_entry globals 0 x;
        shape = function_shape x;
        layout = function_layout x;
        body = x.body;
        ending = zero_value globals.ranges x.result;
        result = kind_of_type globals.ranges x.result;
      }

  -- a body of a hook of this name ends with void; what it returns is dropped
  abbrev pub hook_routine : List ℕ → Kind → Hook → Routine
  hook_routine name current x =
      record { entry = hook_entry globals 0 name x; shape = hook_shape current x; layout = hook_layout x; body = x.body; ending = void; result = Void }

  -- functions in the order of their numbers
  abbrev pub function_routines : List Function → List Routine
  function_routines [] = []
  function_routines (x ∷ xs) = function_routine x ∷ function_routines xs

  -- bodies of hooks from a number on, by the names of the hooks and the kinds of `$$` by the numbers of all bodies
  abbrev pub hook_routines : List (List ℕ) → List Kind → ℕ → List Hook → List Routine
  hook_routines names currents h [] = []
  hook_routines names currents h (x ∷ xs) = hook_routine (name_at names h) (kind_at currents h) x ∷ hook_routines names currents (suc h) xs

-- those of a list of modules: its functions, and behind them the bodies of its hooks
abbrev pub routines_of : List (List ℕ) → List Kind → Typed → List Routine
routines_of names currents list = function_routines (globals_of list) list.functions ++ hook_routines (globals_of list) names currents 0 list.hooks
