-- What units of integers mean: how one is entered, reads its fields, runs its hooks, and fails. What else may stand in a unit claims
-- nothing yet.
use Rattle.std.specs.Prelude.{ℕ, ◌+◌, Bool, true, false, List, [], ◌∷◌, ◌++◌, length, replicate, Option, Some, None, slice_get, ◌-◌}
use Rattle.sp_base.specs.declared.places.Limits.{Limits}
use Rattle.sp_words.specs.declared.words.HookName.{HookName}
use Rattle.sp_words.specs.declared.words.HookName.TheVariants.{Init, Done, Error, Finally}
use Rattle.sp_value.specs.Val.{Val, unit, uint, void}
use Rattle.sp_typed.specs.Exprs.{Expr}
use Rattle.sp_typed_units.specs.declared.declarations.Member.{Member}
use Rattle.sp_typed_units.specs.declared.declarations.Typed.{Typed}
use Rattle.sp_typed_units.specs.declared.declarations.Unit.{Unit}
use Rattle.sp_typed_units.specs.declared.declarations.Variable.{Variable}
use Rattle.sp_typed_units.specs.Parts.{Part, Parts, field, no_parts, more_parts, parts}
use Rattle.sp_meaning_states.specs.States as running
use Rattle.sp_meaning_states.specs.States.{Reading, Instance, State, End, Fine, Failed, Backs, Rejected, Need, Unfinished, Result, ends, on_end, got, done, chosen, put_member, start_of}
use Rattle.sp_meaning_states.specs.Scopes.{InUnit, InFailing, ends_fiber, inside}
use Rattle.sp_meaning_states.specs.Reads.{Ask, Read}
use Rattle.sp_meaning_states.specs.Types.{width_bytes, zero_value}
use Rattle.sp_meaning_states.specs.Telling.{Names}
use Rattle.sp_meaning.specs.Globals.{globals_of}
use Rattle.sp_meaning.specs.Operations.{known}
use Rattle.sp_meaning.specs.Hooks.{hook_bodies, is_of_unit}
use Rattle.sp_meaning.specs.Integers.{integer_means, IntegerForm, integer_field, last_order, module_order}
use Rattle.sp_meaning.specs.Around.{with_arguments}
use Rattle.sp_meaning.specs.Exprs.{expr_means}
use Rattle.sp_meaning.specs.Calls.{counted, call_means, hooks_mean}
use Rattle.sp_typed_units.specs.declared.declarations.Sink.{Sink}
use Rattle.sp_numbers.specs.declared.width.Width.TheVariants.{W64}

-- a unit without sinks that is no filter
abbrev pub is_plain : Bool → List Sink → Bool
is_plain false [] = true
is_plain filter sinks = false

-- a value becomes that of a field, unless that has no name
abbrev pub stored : Option ℕ → Val → State → Result
stored (Some m) v st = put_member (unit st.self) m v st
stored None v st = ends Fine st

-- the value with which a member of a unit begins, where bitfields have so many ranges
abbrev pub first_value : List ℕ → Option Member → Val
first_value ranges (Some m) = zero_value ranges m.ty
first_value ranges None = void

-- how far the place is behind the start of the unit at hand
abbrev pub offset_here : State → Val
offset_here st = uint W64 (st.now.place - start_of st (unit st.self))

-- one after another, each of which must end well
abbrev pub in_turn : List (State → Result) → State → Result
in_turn [] st = ends Fine st
in_turn (m ∷ []) st = m st
in_turn (m ∷ n ∷ ms) st = done (in_turn (n ∷ ms)) (m st)

module _ (names : Names) (hook_names : List (List ℕ)) (list : Typed) (limits : Limits) (reads : Reading → Ask → Read) where
  -- A field is read and its value is stored, and then the bodies of its hooks run in order, each with the value and the offset of the
  -- field's first byte.
  abbrev pub field_means : ℕ → IntegerForm → (member : Option ℕ) → (hooks : List ℕ) → State → Result
  field_means n form member hs st =
      got (λ v. in_turn (stored member v ∷ hooks_mean names hook_names list limits false n hs (v ∷ offset_here st ∷ []) ∷ []))
      (integer_means reads (width_bytes form.width) form.little form.signed st)

  -- a part, where this is the byte order of the unit
  abbrev pub part_means : ℕ → Option ℕ → Part → State → Result
  part_means n o (field f) st = known (integer_field o f) (λ form. field_means n form f.member f.hooks) st
  part_means n o p st = ends Unfinished st

  -- the parts in order
  abbrev pub parts_mean : ℕ → Option ℕ → Parts → State → Result
  parts_mean n o no_parts st = ends Fine st
  parts_mean n o (more_parts p ps) st = done (parts_mean n o ps) (part_means n o p st)

  -- variables begin with the first values of their types
  abbrev pub variables_begin : List Member → List Variable → State → Result
  variables_begin ms [] st = ends Fine st
  variables_begin ms (v ∷ vs) st = done (variables_begin ms vs) (put_member (unit st.self) v.member (first_value (globals_of list).ranges (slice_get ms v.member)) st)

  -- the value that a variable has of its own
  abbrev pub variable_means : ℕ → (member : ℕ) → Option Expr → State → Result
  variable_means n m (Some e) st =
      got (λ v st. put_member (unit st.self) m v st) (expr_means (globals_of list) (call_means names hook_names list limits n) (with_arguments []) e st)
  variable_means n m None st = ends Fine st

  -- the variables get their own values in order
  abbrev pub variables_mean : ℕ → List Variable → State → Result
  variables_mean n [] st = ends Fine st
  variables_mean n (v ∷ vs) st = done (variables_mean n vs) (variable_means n v.member v.value st)

  -- the bodies of a hook that each unit has, of a unit that fails or doesn't
  abbrev pub unit_hook_means : (failing : Bool) → ℕ → (unit : ℕ) → HookName → State → Result
  unit_hook_means failing n u name st = hooks_mean names hook_names list limits failing n (hook_bodies (is_of_unit u name) list.hooks) [] st

  -- the byte order of a unit: its own, or that of its module
  abbrev pub unit_order : Unit → Option ℕ
  unit_order x = last_order (module_order x.«module» None list.orders) x.orders

  -- what a unit does from its beginning to `%done`
  abbrev pub unit_parts_mean : ℕ → (unit : ℕ) → Unit → State → Result
  unit_parts_mean n u x =
      in_turn
      (variables_begin x.members x.variables
      ∷ variables_mean n x.variables
      ∷ unit_hook_means false n u Init
      ∷ parts_mean n (unit_order x) (parts x.parts)
      ∷ unit_hook_means false n u Done
      ∷ [])

  -- A unit that fails runs `%error` and then `%finally`, whose own errors are dropped unless they end the fiber. It ends with the error
  -- with which it failed.
  abbrev pub failing_means : ℕ → (unit : ℕ) → running.Error → State → Result
  failing_means n u e st = inside (InFailing e) (in_turn (unit_hook_means true n u Error ∷ unit_hook_means true n u Finally ∷ []) st)

  -- What follows the parts of a unit: `%finally`, or its failing. An error that ends the fiber runs no hook, and neither does a step back.
  abbrev pub parts_left : ℕ → (unit : ℕ) → End → State → Result
  parts_left n u Fine st = unit_hook_means false n u Finally st
  parts_left n u (Failed e) st = chosen (ends_fiber e.kind) (ends (Failed e)) (failing_means n u e) st
  parts_left n u Backs st = ends Backs st
  parts_left n u Rejected st = ends Rejected st
  parts_left n u (Need m) st = ends (Need m) st
  parts_left n u how st = ends Unfinished st

  -- a new instance, whose members are unset, is the one at hand
  abbrev pub unit_begun : (unit : ℕ) → Unit → (arguments : List Val) → State → State
  unit_begun u x vs st =
      let instance : Instance = record { unit = u; start = st.now.place; parameters = vs; members = replicate (length x.members) None } in
      record st { instances = st.instances ++ instance ∷ []; self = length st.instances; locals = []; depth = st.depth + 1 }

  -- a unit once its turn and its depth are counted
  abbrev pub entered_means : ℕ → (unit : ℕ) → Unit → (arguments : List Val) → State → Result
  entered_means n u x vs st =
      inside (InUnit x.uses_input (length st.instances) st.now.place st.self st.locals) (on_end (parts_left n u) (unit_parts_mean n u x (unit_begun u x vs st)))

  -- A unit is entered with its arguments. At most n calls and rounds are inside one another in its bodies.
  abbrev pub unit_means : ℕ → (unit : ℕ) → (arguments : List Val) → State → Result
  unit_means n u vs st = known (slice_get list.units u) (λ x. chosen (is_plain x.filter x.sinks) (counted names hook_names list limits (entered_means n u x vs)) (ends Unfinished)) st
