-- What units of integers mean: how one is entered, reads its fields, runs its hooks, and fails. What else may stand in a unit claims
-- nothing yet.
use Rattle.std.specs.Prelude.{ℕ, ◌+◌, pos, Bool, true, false, List, [], ◌∷◌, ◌++◌, length, reverse, replicate, Option, Some, None, slice_get}
use Rattle.sp_base.specs.declared.places.Limits.{Limits}
use Rattle.sp_numbers.specs.declared.width.Width.TheVariants.{W64}
use Rattle.sp_words.specs.declared.words.HookName.{HookName}
use Rattle.sp_words.specs.declared.words.HookName.TheVariants.{Init, Done, Error, Finally}
use Rattle.sp_value.specs.Val.{Val, uint, int, unit}
use Rattle.sp_typed.specs.Exprs.{Expr}
use Rattle.sp_typed_units.specs.declared.declarations.Member.{Member}
use Rattle.sp_typed_units.specs.declared.declarations.Typed.{Typed}
use Rattle.sp_typed_units.specs.declared.declarations.Unit.{Unit}
use Rattle.sp_typed_units.specs.declared.declarations.Variable.{Variable}
use Rattle.sp_typed_units.specs.Parts.{Part, Parts, field, no_parts, more_parts, parts}
use Rattle.sp_meaning_states.specs.States as running
use Rattle.sp_meaning_states.specs.States.{Reading, State, End, Fine, Failed, Backs, Rejected, Need, Unfinished, Result, ends, on_end, got, done, chosen, turn, deeper, local_of, set_local, put_member}
use Rattle.sp_meaning_states.specs.Scopes.{InUnit, InFailing, ends_fiber, inside}
use Rattle.sp_meaning_states.specs.Reads.{Ask, Read}
use Rattle.sp_meaning_states.specs.Types.{width_bytes}
use Rattle.sp_meaning_states.specs.Telling.{Names}
use Rattle.sp_code_meaning.specs.Layouts.{Layout}
use Rattle.sp_meaning.specs.Globals.{globals_of}
use Rattle.sp_meaning.specs.Operations.{known}
use Rattle.sp_code_meaning.specs.Exprs.{expr_means}
use Rattle.sp_meaning.specs.Hooks.{hook_bodies, is_of_unit}
use Rattle.sp_code_meaning.specs.Calls.{call_means, hooks_mean}
use Rattle.sp_meaning.specs.Integers.{integer_means, IntegerForm, integer_field, last_order, module_order}
use Rattle.sp_meaning.specs.Units.{first_value, is_plain, offset_here, stored}

-- The locals of a unit's own code: the offset of the field at hand, and its `$$`, which is unsigned or has a sign.
abbrev pub offset_slot : ℕ
offset_slot = 0

-- the local of `$$`
abbrev pub value_slot : (signed : Bool) → ℕ
value_slot false = 1
value_slot true = 2

-- the first values of these locals
abbrev pub unit_slots : List Val
unit_slots = uint W64 0 ∷ uint W64 0 ∷ int W64 (pos 0) ∷ []

-- the expressions of a unit see its parameters, and have no `$$`
abbrev pub unit_layout : Layout
unit_layout = record { own = 0; current = value_slot false; offset = None; first = 3 }

module _ (names : Names) (hook_names : List (List ℕ)) (list : Typed) (limits : Limits) (reads : Reading → Ask → Read) where
  -- an integer that stands so in the input
  abbrev pub integer_in : IntegerForm → State → Result
  integer_in form st = integer_means reads (width_bytes form.width) form.little form.signed st

  -- A field is read, its value is stored, and the bodies of its hooks run in order, each with the value and the offset of the field's
  -- first byte, which are kept for them.
  abbrev pub hooked_means : ℕ → IntegerForm → Option ℕ → List ℕ → State → Result
  hooked_means n form member hs st =
      let l = value_slot form.signed in
      got (λ v st. done (λ st. hooks_mean names hook_names list limits false n hs (local_of st offset_slot ∷ local_of st l ∷ []) st)
      (stored member (local_of (set_local l v st) l) (set_local l v st)))
      (integer_in form (set_local offset_slot (offset_here st) st))

  -- a field without hooks keeps nothing for them
  abbrev pub field_means : ℕ → IntegerForm → Option ℕ → List ℕ → State → Result
  field_means n form member [] st = got (stored member) (integer_in form st)
  field_means n form member (h ∷ hs) st = hooked_means n form member (h ∷ hs) st

  -- a part, where this is the byte order of the unit
  abbrev pub part_means : ℕ → Option ℕ → Part → State → Result
  part_means n o (field f) st = known (integer_field o f) (λ form st. field_means n form f.member f.hooks st) st
  part_means n o p st = ends Unfinished st

  -- the parts in order
  abbrev pub parts_mean : ℕ → Option ℕ → Parts → State → Result
  parts_mean n o no_parts st = ends Fine st
  parts_mean n o (more_parts p ps) st = done (parts_mean n o ps) (part_means n o p st)

  -- variables begin with the first values of their types
  abbrev pub variables_begin : List Member → List Variable → State → Result
  variables_begin ms [] st = ends Fine st
  variables_begin ms (v ∷ vs) st = done (variables_begin ms vs) (put_member (unit st.self) v.member (first_value (globals_of list).ranges (slice_get ms v.member)) st)

  -- the value that a variable has of its own
  abbrev pub variable_means : ℕ → ℕ → Option Expr → State → Result
  variable_means n m (Some e) st =
      got (λ v st. put_member (unit st.self) m v st) (expr_means (globals_of list) (call_means names hook_names list limits n) unit_layout e st)
  variable_means n m None st = ends Fine st

  -- the variables get their own values in order
  abbrev pub variables_mean : ℕ → List Variable → State → Result
  variables_mean n [] st = ends Fine st
  variables_mean n (v ∷ vs) st = done (variables_mean n vs) (variable_means n v.member v.value st)

  -- the bodies of a hook that each unit has, of a unit that fails or doesn't
  abbrev pub unit_hook_means : (failing : Bool) → ℕ → ℕ → HookName → State → Result
  unit_hook_means failing n u name st = hooks_mean names hook_names list limits failing n (hook_bodies (is_of_unit u name) list.hooks) [] st

  -- the byte order of a unit: its own, or that of its module
  abbrev pub unit_order : Unit → Option ℕ
  unit_order x = last_order (module_order x.«module» None list.orders) x.orders

  -- variables, `%init`, the parts in order, `%done`
  abbrev pub unit_parts_mean : ℕ → ℕ → Unit → State → Result
  unit_parts_mean n u x st =
      done (unit_hook_means false n u Done) (done (parts_mean n (unit_order x) (parts x.parts)) (done (unit_hook_means false n u Init)
      (done (variables_mean n x.variables) (variables_begin x.members x.variables st))))

  -- A unit that fails runs `%error` and then `%finally`, whose own errors are dropped unless they end the fiber. It ends with the error
  -- with which it failed.
  abbrev pub failing_means : ℕ → ℕ → running.Error → State → Result
  failing_means n u e st = inside (InFailing e) (done (unit_hook_means true n u Finally) (unit_hook_means true n u Error st))

  -- What follows the parts of a unit: `%finally`, or its failing. An error that ends the fiber runs no hook, and neither does a step back.
  abbrev pub parts_left : ℕ → ℕ → End → State → Result
  parts_left n u Fine st = unit_hook_means false n u Finally st
  parts_left n u (Failed e) st = chosen (ends_fiber e.kind) (ends (Failed e)) (failing_means n u e) st
  parts_left n u Backs st = ends Backs st
  parts_left n u Rejected st = ends Rejected st
  parts_left n u (Need m) st = ends (Need m) st
  parts_left n u how st = ends Unfinished st

  -- a new instance, whose members are unset, is the one at hand; its parameters come with the last first
  abbrev pub unit_begun : ℕ → Unit → List Val → State → State
  unit_begun u x vs st =
      record st { instances = st.instances ++ (record { unit = u; start = st.now.place; parameters = reverse vs; members = replicate (length x.members) None }) ∷ []; self = length st.instances; locals = unit_slots; depth = st.depth + 1 }

  -- a unit once its turn and its depth are counted
  abbrev pub entered_means : ℕ → ℕ → Unit → List Val → State → Result
  entered_means n u x vs st =
      inside (InUnit x.uses_input (length st.instances) st.now.place st.self st.locals) (on_end (parts_left n u) (unit_parts_mean n u x (unit_begun u x vs st)))

  -- A unit is entered with its arguments, the last first: a turn is counted, then the depth. At most n calls and rounds are inside one
  -- another in its bodies.
  abbrev pub unit_means : ℕ → ℕ → List Val → State → Result
  unit_means n u vs st =
      known (slice_get list.units u) (λ x st. chosen (is_plain x.filter x.sinks)
      (λ st. done (λ st. done (entered_means n u x vs) (deeper limits.depth st)) (turn limits.turns st)) (ends Unfinished) st) st
