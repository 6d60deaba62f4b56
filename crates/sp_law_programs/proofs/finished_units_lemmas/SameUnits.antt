-- Units agree where the bodies of hooks and the values of variables do; and what follows of more fuel, and of enough.
use Rattle.std.proofs.Common.{◌≡◌, ℕ, List, [], ◌∷◌, length, Option, Some, None, refl, sym, arith, inl, inr}
use Rattle.std.specs.Prelude.{Bool, true, false, slice_get}
use Rattle.sp_base.specs.declared.places.Limits.{Limits}
use Rattle.sp_words.specs.declared.words.HookName.{HookName}
use Rattle.sp_words.specs.declared.words.HookName.TheVariants.{Init, Done, Error, Finally}
use Rattle.sp_value.specs.Val.{Val, unit}
use Rattle.sp_typed.specs.Exprs.{Expr}
use Rattle.sp_typed_units.specs.declared.declarations.Typed.{Typed}
use Rattle.sp_typed_units.specs.declared.declarations.Unit.{Unit as TypedUnit}
use Rattle.sp_typed_units.specs.declared.declarations.Variable.{Variable}
use Rattle.sp_typed_units.specs.Parts.{Part, Parts, field, no_parts, more_parts, parts}
use Rattle.sp_meaning_states.specs.States as running
use Rattle.sp_meaning_states.specs.States.{Reading, End, Fine, Failed, Unfinished, Result, Ends, ends, local_of, set_local, put_member, turn, deeper}
use Rattle.sp_meaning_states.specs.Scopes.{InUnit, InFailing, ends_fiber, left}
use Rattle.sp_meaning_states.specs.Reads.{Ask, Read}
use Rattle.sp_meaning_states.specs.Telling.{Names}
use Rattle.sp_meaning.specs.Globals.{globals_of}
use Rattle.sp_code_meaning.specs.Exprs.{expr_means}
use Rattle.sp_meaning.specs.Hooks.{hook_bodies, is_of_unit}
use Rattle.sp_code_meaning.specs.Calls.{call_means, hooks_mean}
use Rattle.sp_meaning.specs.Integers.{IntegerForm, integer_field}
use Rattle.sp_code_meaning.specs.Units.{offset_slot, value_slot, unit_layout, integer_in, field_means, part_means, parts_mean, variables_begin, variable_means, variables_mean, unit_hook_means, unit_order, unit_parts_mean, failing_means, parts_left, unit_begun, entered_means, unit_means}
use Rattle.sp_meaning.specs.Units.{stored, is_plain, offset_here}
use Rattle.sp_law_programs.specs.finished_bodies.Laws.{IsFinished}
use Rattle.sp_law_programs.proofs.finished_bodies_lemmas.SameCalls as bodies
use Rattle.sp_law_programs.specs.finished_units.Fuel.{UnitsAreTheSameAtMore, UnitsAreDecidedByTurns}
use Rattle.sp_law_programs.proofs.finished_units_lemmas.Same.{Agree, Same, unchanged, ended, then_got, then_done, chosen_same, known_same}

module _ (May : Type 0) (names : Names) (hook_names : List (List ℕ)) (list : Typed) (limits : Limits) (reads : Reading → Ask → Read) (n m : ℕ) where
  -- the bodies of hooks are the same at both fuels
  abbrev HooksAgree : Type 0
  HooksAgree = (failing : Bool) (hs : List ℕ) (vs : List Val) → Same May (hooks_mean names hook_names list limits failing n hs vs) (hooks_mean names hook_names list limits failing m hs vs)

  -- and so are the expressions of units
  abbrev ValuesAgree : Type 0
  ValuesAgree = (e : Expr) → Same May (expr_means (globals_of list) (call_means names hook_names list limits n) unit_layout e) (expr_means (globals_of list) (call_means names hook_names list limits m) unit_layout e)

  module _ (hooks : HooksAgree) (values : ValuesAgree) where
    field_same : (form : IntegerForm) (member : Option ℕ) (hs : List ℕ) → Same May (field_means names hook_names list limits reads n form member hs) (field_means names hook_names list limits reads m form member hs)
    field_same form member [] = λ st. inl refl
    field_same form member (h ∷ hs) =
        then_got May (λ st. integer_in names hook_names list limits reads form (set_local offset_slot (offset_here st) st)) _ _ _
        (unchanged May (λ st. integer_in names hook_names list limits reads form (set_local offset_slot (offset_here st) st))) (λ v.
        then_done May (λ st. stored member (local_of (set_local (value_slot form.signed) v st) (value_slot form.signed)) (set_local (value_slot form.signed) v st)) _ _ _
        (unchanged May (λ st. stored member (local_of (set_local (value_slot form.signed) v st) (value_slot form.signed)) (set_local (value_slot form.signed) v st)))
        (λ st. hooks false (h ∷ hs) (local_of st offset_slot ∷ local_of st (value_slot form.signed) ∷ []) st))

    part_same : (o : Option ℕ) (x : Part) → Same May (part_means names hook_names list limits reads n o x) (part_means names hook_names list limits reads m o x)
    part_same o (field f) = known_same May (integer_field o f) _ _ (λ form. field_same form f.member f.hooks)
    part_same o _ = λ st. inl refl

    parts_same : (o : Option ℕ) (xs : Parts) → Same May (parts_mean names hook_names list limits reads n o xs) (parts_mean names hook_names list limits reads m o xs)
    parts_same o no_parts = λ st. inl refl
    parts_same o (more_parts x xs) = then_done May _ _ _ _ (part_same o x) (parts_same o xs)

    variable_same : (k : ℕ) (e : Option Expr) → Same May (variable_means names hook_names list limits reads n k e) (variable_means names hook_names list limits reads m k e)
    variable_same k (Some e) = then_got May _ _ _ _ (values e) (λ v. unchanged May (λ st. put_member (unit st.self) k v st))
    variable_same k None = λ st. inl refl

    variables_same : (vs : List Variable) → Same May (variables_mean names hook_names list limits reads n vs) (variables_mean names hook_names list limits reads m vs)
    variables_same [] = λ st. inl refl
    variables_same (v ∷ vs) = then_done May _ _ _ _ (variable_same v.member v.value) (variables_same vs)

    hook_same : (failing : Bool) (u : ℕ) (name : HookName) → Same May (unit_hook_means names hook_names list limits reads failing n u name) (unit_hook_means names hook_names list limits reads failing m u name)
    hook_same failing u name = hooks failing (hook_bodies (is_of_unit u name) list.hooks) []

    unit_parts_same : (u : ℕ) (x : TypedUnit) → Same May (unit_parts_mean names hook_names list limits reads n u x) (unit_parts_mean names hook_names list limits reads m u x)
    unit_parts_same u x =
        then_done May _ _ _ _
        (then_done May _ _ _ _
        (then_done May _ _ _ _
        (then_done May (variables_begin names hook_names list limits reads x.members x.variables) _ _ _ (unchanged May (variables_begin names hook_names list limits reads x.members x.variables)) (variables_same x.variables))
        (hook_same false u Init))
        (parts_same (unit_order names hook_names list limits reads x) (parts x.parts)))
        (hook_same false u Done)

    failing_same : (u : ℕ) (e : running.Error) → Same May (failing_means names hook_names list limits reads n u e) (failing_means names hook_names list limits reads m u e)
    failing_same u e = λ st. ended May (left (InFailing e)) (left (InFailing e)) (λ how st. inl refl) _ _ (then_done May _ _ _ _ (hook_same true u Error) (hook_same true u Finally) st)

    left_same : (u : ℕ) (how : End) → Same May (parts_left names hook_names list limits reads n u how) (parts_left names hook_names list limits reads m u how)
    left_same u Fine = hook_same false u Finally
    left_same u (Failed e) = chosen_same May (ends_fiber e.kind) (ends (Failed e)) (ends (Failed e)) _ _ (unchanged May (ends (Failed e))) (failing_same u e)
    left_same u _ = λ st. inl refl

    entered_same : (u : ℕ) (x : TypedUnit) (vs : List Val) → Same May (entered_means names hook_names list limits reads n u x vs) (entered_means names hook_names list limits reads m u x vs)
    entered_same u x vs = λ st.
        let scope = InUnit x.uses_input (length st.instances) st.now.place st.self st.locals in
        ended May (left scope) (left scope) (λ how st. inl refl) _ _
        (ended May (parts_left names hook_names list limits reads n u) (parts_left names hook_names list limits reads m u) (left_same u) _ _ (unit_parts_same u x (unit_begun names hook_names list limits reads u x vs st)))

    pub unit_same : (u : ℕ) (vs : List Val) → Same May (unit_means names hook_names list limits reads n u vs) (unit_means names hook_names list limits reads m u vs)
    unit_same u vs =
        known_same May (slice_get list.units u) _ _ (λ x. chosen_same May (is_plain x.filter x.sinks) _ _ (ends Unfinished) (ends Unfinished)
        (then_done May (turn limits.turns) (turn limits.turns) _ _ (unchanged May (turn limits.turns))
        (then_done May (deeper limits.depth) (deeper limits.depth) _ _ (unchanged May (deeper limits.depth)) (entered_same u x vs)))
        (unchanged May (ends Unfinished)))

-- what is the same where it is finished, and what is the same anyway
where_finished : (r s : Result) → (IsFinished r → s ≡ r) → Agree (Unit {0}) r s
where_finished (Ends Unfinished es st) s h = inr (tt, tt)
where_finished (Ends _ es st) s h = inl (sym (h tt))

finished_same : (r s : Result) → IsFinished r → Agree (Unit {0}) r s → s ≡ r
finished_same r s f (inl e) = sym e
finished_same (Ends Unfinished es st) s f (inr u) = absurd f
finished_same (Ends _ es st) s f (inr u) = absurd u.1

decided_same : (r s : Result) → Agree ⊥ r s → s ≡ r
decided_same r s (inl e) = sym e
decided_same r s (inr u) = absurd u.0

pub units_are_the_same_at_more : UnitsAreTheSameAtMore
units_are_the_same_at_more names hook_names list limits reads u ws n m st l f =
    let all = bodies.more_fuel_is_the_same names hook_names list limits in
    finished_same (unit_means names hook_names list limits reads n u ws st) (unit_means names hook_names list limits reads m u ws st) f
    (unit_same (Unit {0}) names hook_names list limits reads n m
    (λ failing hs vs st. where_finished (hooks_mean names hook_names list limits failing n hs vs st) (hooks_mean names hook_names list limits failing m hs vs st) (all.rows failing hs vs n m st l))
    (λ e st. where_finished (expr_means (globals_of list) (call_means names hook_names list limits n) unit_layout e st) (expr_means (globals_of list) (call_means names hook_names list limits m) unit_layout e st) (all.expressions unit_layout e n m st l))
    u ws st)

pub units_are_decided_by_turns : UnitsAreDecidedByTurns
units_are_decided_by_turns names hook_names list limits reads u ws n m st l k =
    let all = bodies.turns_are_enough names hook_names list limits in
    decided_same (unit_means names hook_names list limits reads n u ws st) (unit_means names hook_names list limits reads m u ws st)
    (unit_same ⊥ names hook_names list limits reads n m
    (λ failing hs vs st. inl (sym (all.rows failing hs vs n m st (omega (arith, l)) (omega (arith, k)))))
    (λ e st. inl (sym (all.expressions unit_layout e n m st (omega (arith, l)) (omega (arith, k)))))
    u ws st)
