-- The text of code of units: how one is entered with the locals of its own code, goes through its steps, runs its hooks, and fails.
use Rattle.std.specs.Prelude.{ℕ, zero, suc, ◌+◌, true, false, List, [], ◌∷◌, ◌++◌, length, replicate, reverse, Option, Some, None, slice_get}
use Rattle.sp_base.specs.declared.places.Limits.{Limits}
use Rattle.sp_words.specs.declared.words.HookName.TheVariants.{Init, Done, Error, Finally}
use Rattle.sp_value.specs.Val.{Val, unit}
use Rattle.sp_types.specs.Types.{Ty}
use Rattle.sp_typed.specs.Exprs.{Expr}
use Rattle.sp_typed_units.specs.declared.declarations.Typed.{Typed}
use Rattle.sp_typed_units.specs.declared.declarations.Unit.{Unit}
use Rattle.sp_typed_units.specs.declared.declarations.Variable.{Variable}
use Rattle.sp_typed_units.specs.Parts.{parts}
use Rattle.sp_meaning_states.specs.States as running
use Rattle.sp_meaning_states.specs.States.{Reading, Instance, State, End, Fine, Failed, Backs, Rejected, Need, Unfinished, Result, ends, on_end, got, done, chosen, turn, deeper, put_member}
use Rattle.sp_meaning_states.specs.Scopes.{InUnit, InFailing, ends_fiber, inside}
use Rattle.sp_meaning_states.specs.Reads.{Ask, Read}
use Rattle.sp_meaning_states.specs.Telling.{Names}
use Rattle.sp_meaning.specs.Globals.{globals_of}
use Rattle.sp_meaning.specs.Operations.{known}
use Rattle.sp_meaning.specs.Integers.{last_order, module_order}
use Rattle.sp_meaning.specs.Calls.{zero_slots}
use Rattle.sp_meaning.specs.Units.{is_plain}
use Rattle.sp_code_meaning.specs.Exprs.{expr_means}
use Rattle.sp_code_meaning.specs.Calls.{call_means}
use Rattle.sp_code_meaning.specs.Units.{variables_begin, unit_hook_means}
use Rattle.sp_meaning_units.specs.Attributes.{Around}
use Rattle.sp_code_pieces.specs.Pieces.{Steps}
use Rattle.sp_code_pieces.specs.Locals.{parts_locals}
use Rattle.sp_code_pieces.specs.Steps.{layout_at, parts_steps}
use Rattle.sp_code_pieces.specs.Means.{steps_mean}

-- the locals of a unit's own code, and what it does in turn
abbrev pub unit_locals : Typed → Unit → List Ty
unit_locals list x = parts_locals list.hooks (parts x.parts)

abbrev pub unit_steps : Typed → Unit → Steps
unit_steps list x =
    let around : Around = record { byte_order = last_order (module_order x.«module» None list.orders) x.orders; bit_order = None; offset = None } in
    parts_steps list.hooks (length (unit_locals list x)) 0 around (parts x.parts)

module _ (names : Names) (hook_names : List (List ℕ)) (list : Typed) (limits : Limits) (reads : Reading → Ask → Read) where
  module _ (n : ℕ) (enter : ℕ → List Val → State → Result) where
    -- the values that variables have of their own
    abbrev pub variables_mean : Unit → List Variable → State → Result
    variables_mean x [] st = ends Fine st
    variables_mean x (v ∷ vs) st = done (variables_mean x vs) (variable_means v.member v.value st)
      where
        variable_means : ℕ → Option Expr → State → Result
        variable_means m (Some e) st =
            got (λ v st. put_member (unit st.self) m v st)
            (expr_means (globals_of list) (call_means names hook_names list limits n) (layout_at list.hooks (length (unit_locals list x)) 0 None) e st)
        variable_means m None st = ends Fine st

    abbrev pub unit_parts_mean : (unit : ℕ) → Unit → State → Result
    unit_parts_mean u x st =
        done (unit_hook_means names hook_names list limits reads false n u Done) (done (steps_mean names hook_names list limits reads n enter (unit_steps list x))
        (done (unit_hook_means names hook_names list limits reads false n u Init) (done (variables_mean x x.variables)
        (variables_begin names hook_names list limits reads x.members x.variables st))))

    abbrev pub failing_means : (unit : ℕ) → running.Error → State → Result
    failing_means u e st =
        inside (InFailing e) (done (unit_hook_means names hook_names list limits reads true n u Finally) (unit_hook_means names hook_names list limits reads true n u Error st))

    abbrev pub parts_left : (unit : ℕ) → End → State → Result
    parts_left u Fine st = unit_hook_means names hook_names list limits reads false n u Finally st
    parts_left u (Failed e) st = chosen (ends_fiber e.kind) (ends (Failed e)) (failing_means u e) st
    parts_left u Backs st = ends Backs st
    parts_left u Rejected st = ends Rejected st
    parts_left u (Need m) st = ends (Need m) st
    parts_left u how st = ends Unfinished st

    -- a new instance is the one at hand; its parameters come with the last first
    abbrev pub unit_begun : (unit : ℕ) → Unit → List Val → State → State
    unit_begun u x vs st =
        let instance : Instance = record { unit = u; start = st.now.place; parameters = reverse vs; members = replicate (length x.members) None } in
        record st { instances = st.instances ++ instance ∷ []; self = length st.instances; locals = zero_slots (globals_of list).ranges (unit_locals list x); depth = st.depth + 1 }

    abbrev pub entered_means : (unit : ℕ) → Unit → List Val → State → Result
    entered_means u x vs st =
        inside (InUnit x.uses_input (length st.instances) st.now.place st.self st.locals) (on_end (parts_left u) (unit_parts_mean u x (unit_begun u x vs st)))

  -- A unit is entered with its arguments, the last first: a turn is counted, then the depth.
  abbrev pub unit_means : ℕ → (unit : ℕ) → List Val → State → Result
  unit_means zero u vs st = ends Unfinished st
  unit_means (suc n) u vs st =
      known (slice_get list.units u) (λ x st. chosen (is_plain x.filter x.sinks)
      (λ st. done (λ st. done (entered_means n (unit_means n) u x vs) (deeper limits.depth st)) (turn limits.turns st)) (ends Unfinished) st) st
