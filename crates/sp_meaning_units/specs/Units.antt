-- What units mean: how one is entered, reads its parts, runs its hooks, and fails.
use Rattle.std.specs.Prelude.{ℕ, zero, suc, true, false, List, [], ◌∷◌, length, Some, None, slice_get}
use Rattle.sp_base.specs.declared.kinds.PKind.TheVariants.{NoAlternative}
use Rattle.sp_base.specs.declared.places.Limits.{Limits}
use Rattle.sp_words.specs.declared.operators.BinaryOp.TheVariants as op_is
use Rattle.sp_words.specs.declared.words.HookName.TheVariants.{Init, Done, Error, Finally}
use Rattle.sp_value.specs.Val.{Val}
use Rattle.sp_operators.specs.Operators.{binary}
use Rattle.sp_typed.specs.Exprs.{Expr}
use Rattle.sp_typed_units.specs.declared.declarations.Typed.{Typed}
use Rattle.sp_typed_units.specs.declared.declarations.Unit.{Unit}
use Rattle.sp_typed_units.specs.Parts.{Part, Parts, Arms, field, choice, no_parts, more_parts, no_arms, more_arms, parts}
use Rattle.sp_meaning_states.specs.States as running
use Rattle.sp_meaning_states.specs.States.{Reading, State, End, Fine, Failed, Backs, Rejected, Need, Unfinished, Result, ends, on_end, got, done, chosen, fails, answer}
use Rattle.sp_meaning_states.specs.Scopes.{InUnit, InFailing, ends_fiber, inside}
use Rattle.sp_meaning_states.specs.Reads.{Ask, Read}
use Rattle.sp_meaning_states.specs.Telling.{Names}
use Rattle.sp_meaning.specs.Operations.{known}
use Rattle.sp_meaning.specs.Calls.{counted}
use Rattle.sp_meaning.specs.Units.{in_turn, is_plain, variables_begin, variables_mean, unit_hook_means, unit_order, unit_begun}
use Rattle.sp_meaning_units.specs.Attributes.{Around}
use Rattle.sp_meaning_units.specs.Containers.{if_holds}
use Rattle.sp_meaning_units.specs.Fields.{asked, field_means}

module _ (names : Names) (hook_names : List (List ℕ)) (list : Typed) (limits : Limits) (reads : Reading → Ask → Read) where
  module _ (n : ℕ) (enter : ℕ → List Val → State → Result) where
    -- a value of an arm, compared with that of its switch
    abbrev pub equals : Val → Expr → State → Result
    equals x e st = got (λ y. answer (binary op_is.Equal x y)) (asked names hook_names list limits reads n enter None None e st)

    -- the values of an arm in turn, up to one that is equal
    abbrev pub one_equals : Val → List Expr → (there otherwise : State → Result) → State → Result
    one_equals x [] there otherwise st = otherwise st
    one_equals x (e ∷ es) there otherwise st = if_holds (equals x e) there (one_equals x es there otherwise) st

    -- Parts in order. A switch takes the first arm with an equal value, else the one that is taken where no other is, wherever it stands,
    -- else there is none.
    abbrev mutual
      pub parts_mean : Around → Parts → State → Result
      parts_mean around no_parts st = ends Fine st
      parts_mean around (more_parts p ps) st = done (parts_mean around ps) (part_means around p st)

      pub part_means : Around → Part → State → Result
      part_means around (field f) st = field_means names hook_names list limits reads n enter around f st
      part_means around (choice span (Some e) arms) st = got (λ x. arm_means around x arms (fails NoAlternative)) (asked names hook_names list limits reads n enter None None e st)
      part_means around (choice span None arms) st = ends Unfinished st

      pub arm_means : Around → Val → Arms → (otherwise : State → Result) → State → Result
      arm_means around x no_arms otherwise st = otherwise st
      arm_means around x (more_arms a ps rest) otherwise st =
          chosen a.otherwise (arm_means around x rest (parts_mean around ps))
          (one_equals x a.values (parts_mean around ps) (arm_means around x rest otherwise)) st

    -- what a unit does from its beginning to `%done`
    abbrev pub unit_parts_mean : (unit : ℕ) → Unit → State → Result
    unit_parts_mean u x =
        let around : Around = record { byte_order = unit_order names hook_names list limits reads x; bit_order = None; offset = None } in
        in_turn
        (variables_begin names hook_names list limits reads x.members x.variables
        ∷ variables_mean names hook_names list limits reads n x.variables
        ∷ unit_hook_means names hook_names list limits reads false n u Init
        ∷ parts_mean around (parts x.parts)
        ∷ unit_hook_means names hook_names list limits reads false n u Done
        ∷ [])

    -- A unit that fails runs `%error` and then `%finally`, whose own errors are dropped unless they end the fiber. It ends with the error
    -- with which it failed.
    abbrev pub failing_means : (unit : ℕ) → running.Error → State → Result
    failing_means u e st =
        inside (InFailing e)
        (in_turn (unit_hook_means names hook_names list limits reads true n u Error ∷ unit_hook_means names hook_names list limits reads true n u Finally ∷ []) st)

    -- What follows the parts of a unit: `%finally`, or its failing. An error that ends the fiber runs no hook, and neither does a step
    -- back.
    abbrev pub parts_left : (unit : ℕ) → End → State → Result
    parts_left u Fine st = unit_hook_means names hook_names list limits reads false n u Finally st
    parts_left u (Failed e) st = chosen (ends_fiber e.kind) (ends (Failed e)) (failing_means u e) st
    parts_left u Backs st = ends Backs st
    parts_left u Rejected st = ends Rejected st
    parts_left u (Need m) st = ends (Need m) st
    parts_left u how st = ends Unfinished st

    -- a unit once its turn and its depth are counted
    abbrev pub entered_means : (unit : ℕ) → Unit → (arguments : List Val) → State → Result
    entered_means u x vs st =
        inside (InUnit x.uses_input (length st.instances) st.now.place st.self st.locals)
        (on_end (parts_left u) (unit_parts_mean u x (unit_begun names hook_names list limits reads u x vs st)))

  -- A unit is entered with its arguments. At most n units, calls, rounds and elements are inside one another.
  abbrev pub unit_means : ℕ → (unit : ℕ) → (arguments : List Val) → State → Result
  unit_means zero u vs st = ends Unfinished st
  unit_means (suc n) u vs st =
      known (slice_get list.units u) (λ x.
      chosen (is_plain x.filter x.sinks) (counted names hook_names list limits (entered_means n (unit_means n) u x vs)) (ends Unfinished)) st
