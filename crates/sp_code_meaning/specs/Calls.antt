-- What calls of functions and bodies of hooks mean, and in which order the bodies of a hook run.
use Rattle.std.specs.Prelude.{ℕ, zero, suc, ◌+◌, Bool, List, [], ◌∷◌, ◌++◌, length, take, reverse, Some, None, slice_get, unwrap_or, if◌then◌else◌}
use Rattle.sp_base.specs.declared.places.Limits.{Limits}
use Rattle.sp_events.specs.declared.event.What.{What}
use Rattle.sp_value.specs.Val.{Val, void}
use Rattle.sp_types.specs.Types.{Ty}
use Rattle.sp_typed.specs.Stmts.{Stmt}
use Rattle.sp_typed_units.specs.declared.declarations.Function.{Function}
use Rattle.sp_typed_units.specs.declared.declarations.Hook.{Hook}
use Rattle.sp_typed_units.specs.declared.declarations.Typed.{Typed}
use Rattle.sp_meaning_states.specs.States.{State, Fine, Returned, Unfinished, Result, ends, behind, done, turn, deeper}
use Rattle.sp_meaning_states.specs.Scopes.{called_where, InCall, inside}
use Rattle.sp_meaning_states.specs.Scopes as called_is
use Rattle.sp_meaning_states.specs.Types.{zero_value}
use Rattle.sp_meaning_states.specs.Telling.{Names, value_trees}
use Rattle.sp_code_meaning.specs.Layouts.{Layout}
use Rattle.sp_meaning.specs.Globals.{globals_of}
use Rattle.sp_meaning.specs.Operations.{known}
use Rattle.sp_code_meaning.specs.Stmts.{stmt_means}
use Rattle.sp_meaning.specs.Hooks.{has_current, is_foreach, told_count}
use Rattle.sp_meaning.specs.Calls.{zero_slots}

-- a function keeps its parameters before its slots
abbrev pub function_layout : Function → Layout
function_layout x = record { own = length x.parameters; current = 0; offset = None; first = length x.parameters }

abbrev pub hook_layout : Hook → Layout
hook_layout x =
    if has_current x.of
    then record { own = 0; current = 0; offset = Some 1; first = 2 }
    else record { own = length x.parameters; current = 0; offset = None; first = length x.parameters }

module _ (names : Names) (hook_names : List (List ℕ)) (list : Typed) (limits : Limits) where
  -- the body of a function or a hook, which gives the first value of its type where it ends without a `return`
  abbrev pub body_means : ℕ → (ℕ → List Val → State → Result) → Layout → Val → Stmt → State → Result
  body_means n call layout ending body st =
      done (ends (Returned ending)) (stmt_means names (globals_of list) limits.turns call layout n body st)

  -- the locals of a body: what is handed to it, the last first, and behind that its slots
  abbrev pub with_locals : List Val → List Ty → State → State
  with_locals vs slots st = record st { locals = reverse vs ++ zero_slots (globals_of list).ranges slots }

  abbrev pub one_deeper : State → State
  one_deeper st = record st { depth = st.depth + 1 }

  -- A call of a function with its arguments, the last first: a turn is counted, then the depth. At most n calls and rounds are inside
  -- one another.
  abbrev pub call_means : ℕ → ℕ → List Val → State → Result
  call_means zero f vs st = ends Unfinished st
  call_means (suc n) f vs st =
      known (slice_get list.functions f) (λ x st. done (λ st. done (λ st.
      inside (InCall called_is.Called.Function st.self st.locals)
      (body_means n (call_means n) (function_layout x) (zero_value (globals_of list).ranges x.result) x.body (one_deeper (with_locals vs x.slots st))))
      (deeper limits.depth st)) (turn limits.turns st)) st

  -- what a body of a hook tells when it begins
  abbrev pub hook_event : ℕ → ℕ → List Val → State → What
  hook_event h told vs st = What.Hook (unwrap_or (slice_get hook_names h) []) (value_trees names st.instances (take told (reverse vs)))

  -- one body of a hook of a unit that fails or doesn't: its turn, its event, and what its statements do
  abbrev pub hook_means : (failing : Bool) → ℕ → ℕ → List Val → State → Result
  hook_means failing n h vs st =
      known (slice_get list.hooks h) (λ x st. done (λ st. behind (hook_event h (told_count x) vs st ∷ [])
      (inside (InCall (called_where failing (called_is.Called.Hook (is_foreach x.of))) st.self st.locals)
      (body_means n (call_means n) (hook_layout x) void x.body (with_locals vs x.slots st))))
      (turn limits.turns st)) st

  -- The bodies of a hook that isn't one of elements, one after another. What ends one by a way out ends the hook, unless the unit fails:
  -- then it ends that body alone.
  abbrev pub hooks_mean : (failing : Bool) → ℕ → List ℕ → List Val → State → Result
  hooks_mean failing n [] vs st = ends Fine st
  hooks_mean failing n (h ∷ hs) vs st = done (hooks_mean failing n hs vs) (hook_means failing n h vs st)
