-- A unit of integers that is entered gives its instance, fails or waits, with fuel enough.
use Rattle.std.proofs.Common.{◌≡◌, ℕ, ◌<◌, Bool, true, false, List, [], ◌∷◌, ◌++◌, length, replicate, reverse, Option, Some, None, refl, sym, ap, ◌∙◌, subst}
use Rattle.std.specs.Prelude.{pos, nat_lt, slice_get, if◌then◌else◌}
use Rattle.sp_base.specs.declared.kinds.PKind.TheVariants.{Turns, Depth}
use Rattle.sp_base.specs.declared.places.Limits.{Limits}
use Rattle.sp_numbers.specs.declared.width.Width.TheVariants.{W64}
use Rattle.sp_words.specs.declared.words.HookName.{HookName}
use Rattle.sp_words.specs.declared.words.HookName.TheVariants.{Init, Done, Error, Finally}
use Rattle.sp_events.specs.declared.event.What.{What}
use Rattle.sp_value.specs.Val.{Val}
use Rattle.sp_methods.specs.Kinds.{Kind, Have}
use Rattle.sp_typed_units.specs.declared.declarations.Typed.{Typed}
use Rattle.sp_typed_units.specs.declared.declarations.Unit.{Unit as TypedUnit}
use Rattle.sp_typed_units.specs.Parts.{parts}
use Rattle.sp_meaning_states.specs.States as running
use Rattle.sp_meaning_states.specs.States.{Reading, Instance, State, End, Fine, Failed, Need, Unfinished, Result, Ends, ends, behind, on_end, done, chosen, fails, one_more, turn, deeper, end_of}
use Rattle.sp_meaning_states.specs.Scopes.{InUnit, InFailing, ends_fiber, left, inside}
use Rattle.sp_meaning_states.specs.Reads.{Ask, Read}
use Rattle.sp_meaning_states.specs.Telling.{Names}
use Rattle.sp_meaning.specs.Operations.{known}
use Rattle.sp_meaning.specs.Hooks.{hook_bodies, is_of_unit}
use Rattle.sp_code_meaning.specs.Units.{unit_slots, parts_mean, variables_begin, variables_mean, unit_hook_means, unit_order, unit_parts_mean, failing_means, parts_left, unit_begun, entered_means}
use Rattle.sp_meaning.specs.Units.{is_plain}
use Rattle.sp_code.specs.Machine.{Plain}
use Rattle.sp_code.specs.Shapes.{UnitKinds, Shapes, AlwaysHave, Holds}
use Rattle.sp_law_machine.proofs.keeps_lemmas.Growth.{have_grows, all_grow}
use Rattle.sp_law_machine.proofs.keeps_lemmas.Lists.{no_members, have_reversed, both_units, both_have, last_unit}
use Rattle.sp_code_programs.specs.units.Units.{slot_kinds}
use Rattle.sp_law_code.specs.units.Fits.{UnitHookFits, UnitFits}
use Rattle.sp_law_code.specs.units.Keeps.{AreKindsOf}
use Rattle.sp_law_programs.specs.finished_bodies.Finished.{FunctionsFit}
use Rattle.sp_law_programs.specs.finished_units.Built.{UnitIsBuilt, HooksFit}
use Rattle.sp_law_programs.specs.finished_units.Fuel.{IsUnitEnd, UnitsAreFinished}
use Rattle.sp_law_programs.proofs.finished_units_lemmas.Right.{IsPart, Right, then_end, then_done, at_once, chosen_right}
use Rattle.sp_law_programs.proofs.finished_units_lemmas.Hooks.{unit_hooks_built}
use Rattle.sp_law_programs.proofs.finished_units_lemmas.RightFields.{Does, rows_right, parts_right, begin_right, variables_right}

slots_have : AlwaysHave slot_kinds unit_slots
slots_have units = ((W64, 0, refl), ((W64, 0, refl), ((W64, pos 0, refl), tt)))

-- the ends of what is put together
behind_ends : (i : ℕ) (es : List What) (r : Result) → IsUnitEnd i (end_of r) → IsUnitEnd i (end_of (behind es r))
behind_ends i es (Ends how fs st) h = h

module _ (p : Plain) (shapes : Shapes) (names : Names) (hook_names : List (List ℕ)) (list : Typed) (limits : Limits) (reads : Reading → Ask → Read) (functions : FunctionsFit p shapes list) (fit : HooksFit p shapes list)
    (n : ℕ) (enough : limits.turns < n) (u : ℕ) (x : TypedUnit) (fits : UnitFits p shapes list u x) (built : UnitIsBuilt list u x) where
  -- in the unit
  module _ (units : List ℕ) where
    abbrev DoesHere : (State → Result) → Type 0
    DoesHere f = Does p shapes names hook_names list limits reads functions fit n enough units u f

    hook_right : (failing : Bool) (name : HookName) → UnitHookFits p shapes list u name → DoesHere (unit_hook_means names hook_names list limits reads failing n u name)
    hook_right failing name h =
        rows_right p shapes names hook_names list limits reads functions fit n enough units u failing (hook_bodies (is_of_unit u name) list.hooks) [] [] (unit_hooks_built list u x name built) h tt

    unit_parts_right : DoesHere (unit_parts_mean names hook_names list limits reads n u x)
    unit_parts_right =
        let ma : State → Result = variables_begin names hook_names list limits reads x.members x.variables in
        let mb : State → Result = variables_mean names hook_names list limits reads n x.variables in
        let mc : State → Result = unit_hook_means names hook_names list limits reads false n u Init in
        let md : State → Result = parts_mean names hook_names list limits reads n (unit_order names hook_names list limits reads x) (parts x.parts) in
        let me : State → Result = unit_hook_means names hook_names list limits reads false n u Done in
        then_done p shapes units (Some u) slot_kinds (λ st. done md (done mc (done mb (ma st)))) me
        (then_done p shapes units (Some u) slot_kinds (λ st. done mc (done mb (ma st))) md
        (then_done p shapes units (Some u) slot_kinds (λ st. done mb (ma st)) mc
        (then_done p shapes units (Some u) slot_kinds ma mb
        (begin_right p shapes names hook_names list limits reads functions fit n enough units u x.members x.variables fits.begins)
        (variables_right p shapes names hook_names list limits reads functions fit n enough units u x.variables fits.variables built.variables))
        (hook_right false Init fits.init))
        (parts_right p shapes names hook_names list limits reads functions fit n enough units u (unit_order names hook_names list limits reads x) (parts x.parts) fits.parts built.parts))
        (hook_right false Done fits.done)

    -- what runs where the unit fails ends with an error, or waits
    error_right : (e : running.Error) (how : End) → IsPart how → DoesHere (left (InFailing e) how)
    error_right e Fine a st holds = (tt, holds)
    error_right e (Failed f) a st holds = (tt, holds)
    error_right e (Need m) a st holds = (tt, holds)
    error_right e _ a st holds = absurd a

    failing_right : (e : running.Error) → DoesHere (failing_means names hook_names list limits reads n u e)
    failing_right e = λ st holds.
        then_end p shapes units (Some u) slot_kinds IsPart IsPart (left (InFailing e)) _ (λ z. z) (error_right e)
        (then_done p shapes units (Some u) slot_kinds (unit_hook_means names hook_names list limits reads true n u Error) (unit_hook_means names hook_names list limits reads true n u Finally)
        (hook_right true Error fits.error) (hook_right true Finally fits.finally) st holds)

    left_right : (how : End) → IsPart how → DoesHere (parts_left names hook_names list limits reads n u how)
    left_right Fine a = hook_right false Finally fits.finally
    left_right (Failed e) a =
        chosen_right p shapes units (Some u) slot_kinds (ends_fiber e.kind) (ends (Failed e)) (failing_means names hook_names list limits reads n u e) (at_once p shapes units (Some u) slot_kinds (Failed e) tt) (failing_right e)
    left_right (Need m) a = at_once p shapes units (Some u) slot_kinds (Need m) tt
    left_right _ a = absurd a

    whole_right : DoesHere (λ st. on_end (parts_left names hook_names list limits reads n u) (unit_parts_mean names hook_names list limits reads n u x st))
    whole_right = λ st holds.
        then_end p shapes units (Some u) slot_kinds IsPart IsPart (parts_left names hook_names list limits reads n u) (unit_parts_mean names hook_names list limits reads n u x st) (λ z. z) left_right (unit_parts_right st holds)

  -- what leaves the unit
  unit_ends : (units : List ℕ) (keeps : Bool) (instance start self : ℕ) (locals : List Val) (r : Result) → Right p shapes units (Some u) slot_kinds IsPart r → IsUnitEnd instance (end_of (inside (InUnit keeps instance start self locals) r))
  unit_ends units keeps instance start self locals (Ends Fine es st) a = refl
  unit_ends units keeps instance start self locals (Ends (Failed e) es st) a = tt
  unit_ends units keeps instance start self locals (Ends (Need m) es st) a = tt
  unit_ends units keeps instance start self locals (Ends _ es st) a = absurd a.0

  module _ (kinds : UnitKinds) (ins : List Kind) (listed : slice_get shapes.units u ≡ Some kinds) (are : AreKindsOf x ins kinds) (units : List ℕ) (v : Option ℕ) (ls : List Kind) (ws : List Val) (have : Have units ins ws) where
    -- a unit has been entered, in which values have their kinds
    begun_holds : (st : State) → Holds p shapes units v ls st → Holds p shapes (units ++ u ∷ []) (Some u) slot_kinds (unit_begun names hook_names list limits reads u x ws st)
    begun_holds st holds =
        let more = units ++ u ∷ [] in
        let instance : Instance = record { unit = u; start = st.now.place; parameters = reverse ws; members = replicate (length x.members) None } in
        record {
          told = both_units p shapes units st.instances instance ∙ ap (λ us. us ++ u ∷ []) holds.told;
          instances = both_have p shapes more st.instances instance (all_grow units (u ∷ []) p shapes st.instances holds.instances)
              (record {
                kinds = kinds;
                listed = listed;
                parameters = have_grows units (u ∷ []) kinds.parameters (reverse ws) (subst (λ ks. Have units ks (reverse ws)) (sym are.parameters) (have_reversed units ins ws have));
                members = no_members more kinds.members (length x.members) are.members;
              });
          self = subst (λ us. slice_get (us ++ u ∷ []) (length st.instances) ≡ Some u) holds.told (last_unit p shapes units st.instances instance);
          locals = slots_have more;
        }

    -- the unit once its turn and its depth are counted
    abbrev body : State → Result
    body st = entered_means names hook_names list limits reads n u x ws st

    body_ends : (st : State) → Holds p shapes units v ls st → IsUnitEnd (length st.instances) (end_of (body st))
    body_ends st holds = unit_ends (units ++ u ∷ []) x.uses_input (length st.instances) st.now.place st.self st.locals _ (whole_right (units ++ u ∷ []) (unit_begun names hook_names list limits reads u x ws st) (begun_holds st holds))

    depth_ends : (b : Bool) (st : State) → Holds p shapes units v ls st → IsUnitEnd (length st.instances) (end_of (done body (if b then ends Fine st else fails Depth st)))
    depth_ends true st holds = behind_ends (length st.instances) [] (body st) (body_ends st holds)
    depth_ends false st holds = tt

    turn_ends : (b : Bool) (st : State) → Holds p shapes units v ls st → IsUnitEnd (length st.instances) (end_of (done (λ st. done body (deeper limits.depth st)) (if b then ends Fine (one_more st) else fails Turns st)))
    turn_ends true st holds = behind_ends (length st.instances) [] (done body (deeper limits.depth (one_more st))) (depth_ends (nat_lt st.depth limits.depth) (one_more st) (record { told = holds.told; instances = holds.instances; self = holds.self; locals = holds.locals }))
    turn_ends false st holds = tt

    plain_ends : (b : Bool) (st : State) → b ≡ true → Holds p shapes units v ls st → IsUnitEnd (length st.instances) (end_of (chosen b (λ st. done (λ st. done body (deeper limits.depth st)) (turn limits.turns st)) (ends Unfinished) st))
    plain_ends true st is holds = turn_ends (nat_lt st.now.count limits.turns) st holds
    plain_ends false st is holds = absurd (let q : false ≡ true = is in cc)

pub units_are_finished : UnitsAreFinished
units_are_finished p shapes names hook_names list limits reads functions fit u x is fits built kinds ins listed are n units v ls st ws enough holds have =
    let run : TypedUnit → State → Result = λ x st.
    chosen (is_plain x.filter x.sinks) (λ st. done (λ st. done (entered_means names hook_names list limits reads n u x ws) (deeper limits.depth st)) (turn limits.turns st)) (ends Unfinished) st in
    subst (λ o. IsUnitEnd (length st.instances) (end_of (known o run st))) (sym is)
    (plain_ends p shapes names hook_names list limits reads functions fit n enough u x fits built kinds ins listed are units v ls ws have (is_plain x.filter x.sinks) st built.plain holds)
