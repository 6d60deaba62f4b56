-- Units agree.
use Rattle.std.proofs.Common.{◌≡◌, ℕ, ◌+◌, ◌-◌, ◌<◌, Bool, true, false, List, [], ◌∷◌, length, reverse, Option, Some, None, refl, sym, ap, ◌∙◌, subst, arith}
use Rattle.std.proofs.lemmas.Bool.{ltb-true}
use Rattle.std.specs.Prelude.{slice_get, nat_lt, unwrap_or, if◌then◌else◌}
use Rattle.sp_base.specs.declared.places.Limits.{Limits}
use Rattle.sp_words.specs.declared.words.HookName.{HookName}
use Rattle.sp_words.specs.declared.words.HookName.TheVariants.{Init, Done, Error, Finally}
use Rattle.sp_base.specs.declared.kinds.PKind.TheVariants.{NoMatch}
use Rattle.sp_value.specs.Val.{Val, void, unit}
use Rattle.sp_value.specs.Integers.{integer_of}
use Rattle.sp_typed.specs.Exprs.{Expr}
use Rattle.sp_typed_units.specs.declared.declarations.Member.{Member}
use Rattle.sp_typed_units.specs.declared.declarations.Typed.{Typed}
use Rattle.sp_typed_units.specs.declared.declarations.Unit.{Unit as TypedUnit}
use Rattle.sp_typed_units.specs.declared.declarations.Variable.{Variable}
use Rattle.sp_typed_units.specs.Parts.{Part, Parts, field, no_parts, more_parts, parts}
use Rattle.sp_meaning_states.specs.States as running
use Rattle.sp_meaning_states.specs.States.{Reading, State, End, Gives, Fine, Failed, Backs, Rejected, Need, Unfinished, Result, Ends, ends, done, chosen, put_member, local_of, set_local, parameter_of, turn, deeper, fails, go}
use Rattle.sp_meaning_states.specs.Scopes.{InUnit, InFailing, ends_fiber, outside, one_less, left}
use Rattle.sp_meaning_states.specs.Reads.{Ask, Read, Bytes, Got, Lacks, Shorts, NoWord, on_read}
use Rattle.sp_meaning_states.specs.Telling.{Names}
use Rattle.sp_meaning_states.specs.Types.{width_bytes}
use Rattle.sp_meaning.specs.Globals.{globals_of}
use Rattle.sp_meaning.specs.Hooks.{hook_bodies, is_of_unit}
use Rattle.sp_meaning.specs.Integers.{integer_means, IntegerForm, integer_field}
use Rattle.sp_meaning.specs.Operations.{known}
use Rattle.sp_code_meaning.specs.Exprs.{offset_local, offset_means}
use Rattle.sp_code_meaning.specs.Calls as laid_calls
use Rattle.sp_code_meaning.specs.Units.{value_slot, offset_slot, unit_layout}
use Rattle.sp_meaning.specs.Units.{is_plain, first_value, stored, offset_here, field_means, part_means, parts_mean, variables_begin, variable_means, variables_mean, unit_hook_means, unit_order, unit_parts_mean, failing_means, parts_left, unit_begun, entered_means, unit_means}
use Rattle.sp_code_meaning.specs.Units as laid
use Rattle.sp_meaning.specs.Around.{with_arguments}
use Rattle.sp_meaning.specs.Exprs.{given_or, offset_at_hand}
use Rattle.sp_meaning.specs.Calls.{call_means, hooks_mean, counted}
use Rattle.sp_law_meaning.specs.Laws.{Behind, Agree, MeaningsAreOne}
use Rattle.sp_law_meaning.specs.Standing.{ValueStands, VariablesStand, AreHanded, PartStands, PartsStand, UnitStands, ListStands}
use Rattle.sp_law_meaning.proofs.Agree.{Rel, Same, Both, here, ended, got_agree, done_agree, at_once, nothing, then_got, then_done, chosen_same, known_same}
use Rattle.sp_law_meaning.proofs.Framed.{framed, Framed, Placed, Alike, alike}
use Rattle.sp_law_meaning.proofs.Exprs.{expr_same}
use Rattle.sp_law_meaning.proofs.Calls.{done_done, nothing_handed, calls_same, hooks_same}

-- Where a unit's own code is at hand, the text of code has three locals before those of this text: the offset of the field at hand and
-- its value, unsigned or with a sign. What stands in them is nothing to the meaning.
pub record Scratch (st ts : State) : Type 0 where
  pub offset : Val
  pub unsigned : Val
  pub signed : Val
  pub are : ts ≡ framed (offset ∷ unsigned ∷ signed ∷ []) st

abbrev Loose : (State → Result) → (State → Result) → Type 0
Loose f g = Both Scratch f g

-- what agrees in whatever frame of three
wider : (a b c : Val) (how : End) (st ts : State) → Behind (Framed (a ∷ b ∷ c ∷ [])) how st ts → Behind Scratch how st ts
wider a b c (Need m) st ts r = tt
wider a b c Unfinished st ts r = tt
wider a b c _ st ts r = record { offset = a; unsigned = b; signed = c; are = r }

widened : (a b c : Val) (r s : Result) → Agree (Framed (a ∷ b ∷ c ∷ [])) r s → Agree Scratch r s
widened a b c (Ends how es st) (Ends also fs ts) x = record { how = x.how; told = x.told; behind = wider a b c how st ts x.behind }

loose : (f g : State → Result) → ((a b c : Val) → Alike (a ∷ b ∷ c ∷ []) f g) → Loose f g
loose f g h st ts r = widened r.offset r.unsigned r.signed (f st) (g ts) (h r.offset r.unsigned r.signed st ts r.are)

-- an integer is read alike
integer_alike : (us : List Val) (reads : Reading → Ask → Read) (size : ℕ) (little signed : Bool) → Alike us (integer_means reads size little signed) (integer_means reads size little signed)
integer_alike us reads size little signed = alike us (integer_means reads size little signed) (integer_means reads size little signed) (λ st. by_read (reads st.now (Bytes size)) st)
  where
    by_read : (x : Read) (st : State)
        → Agree (Framed us) (on_read x (λ t n bs st. ends (Gives (integer_of little signed bs)) (go (st.now.place + n) st)) (fails NoMatch) st)
        (on_read x (λ t n bs st. ends (Gives (integer_of little signed bs)) (go (st.now.place + n) st)) (fails NoMatch) (framed us st))
    by_read (Got t n bs) st = here refl
    by_read (Lacks m) st = here tt
    by_read (Shorts overs) st = here refl
    by_read NoWord st = here refl

stored_alike : (us : List Val) (member : Option ℕ) (v : Val) → Alike us (stored member v) (stored member v)
stored_alike us (Some m) v = alike us (stored (Some m) v) (stored (Some m) v) (λ st. here refl)
stored_alike us None v = alike us (stored None v) (stored None v) (λ st. here refl)

-- nothing more is done behind what is stored
stored_alone : (us : List Val) (member : Option ℕ) (v : Val) → Alike us (λ st. done (ends Fine) (stored member v st)) (stored member v)
stored_alone us (Some m) v = alike us (λ st. done (ends Fine) (stored (Some m) v st)) (stored (Some m) v) (λ st. here refl)
stored_alone us None v = alike us (λ st. done (ends Fine) (stored None v st)) (stored None v) (λ st. here refl)

put_own : (us : List Val) (m : ℕ) (v : Val) → Alike us (λ st. put_member (unit st.self) m v st) (λ st. put_member (unit st.self) m v st)
put_own us m v = alike us (λ st. put_member (unit st.self) m v st) (λ st. put_member (unit st.self) m v st) (λ st. here refl)

-- the locals of a unit's own expressions, in the text of code
unit_placed : (a b c : Val) → Placed (with_arguments []) unit_layout (a ∷ b ∷ c ∷ [])
unit_placed a b c =
    record {
      first = refl;
      parameters = λ n st. by_test n st (nat_lt n 0) (ltb-true n 0);
      current = λ v q. absurd (let z : None ≡ Some v = q in cc);
      offset = by_self;
    }
  where
    by_test : (n : ℕ) (st : State) (t : Bool) → (t ≡ true → n < 0)
        → (if t then local_of (framed (a ∷ b ∷ c ∷ []) st) n else parameter_of st (n - 0)) ≡ (if t then unwrap_or (slice_get nothing_handed n) void else parameter_of st (n - 0))
    by_test n st true h = absurd (omega (arith, h refl))
    by_test n st false h = refl

    by_self : (s : Bool) (go on : State → Result) → Both (Framed (a ∷ b ∷ c ∷ [])) go on → Both (Framed (a ∷ b ∷ c ∷ [])) (given_or (offset_at_hand (with_arguments []) s) go) (offset_means (offset_local unit_layout s) on)
    by_self true go on h = h
    by_self false go on h = h

-- states that are equal
abbrev Equal : Rel
Equal st ts = st ≡ ts

equally : (f : State → Result) → Both Equal f f
equally f st ts r = subst (λ ts. Agree Equal (f st) (f ts)) r (itself (f st))
  where
    in_itself : (how : End) (st : State) → Behind Equal how st st
    in_itself (Need m) st = tt
    in_itself Unfinished st = tt
    in_itself _ st = refl

    itself : (r : Result) → Agree Equal r r
    itself (Ends how es st) = here (in_itself how st)

outside_equal : (self : ℕ) (locals : List Val) (st ts : State) → Scratch st ts → one_less (outside self locals st) ≡ one_less (outside self locals ts)
outside_equal self locals st ts s = sym (ap (λ ts. one_less (outside self locals ts)) s.are)

module _ (names : Names) (hook_names : List (List ℕ)) (list : Typed) (limits : Limits) (reads : Reading → Ask → Read) (stands : ListStands list) (n : ℕ) where
  hooks_alike : (failing : Bool) (hs : List ℕ) (us vs : List Val) → AreHanded list (length vs) hs
      → Alike us (hooks_mean names hook_names list limits failing n hs vs) (laid_calls.hooks_mean names hook_names list limits failing n hs (reverse vs))
  hooks_alike failing hs us vs l = hooks_same names hook_names list limits stands failing n hs us vs l

  -- what is done with the value of a field that has hooks, by whether it has a sign
  hooked : (signed : Bool) (member : Option ℕ) (hs : List ℕ) → AreHanded list 2 hs → (o b c v : Val)
      → Same (Framed (o ∷ b ∷ c ∷ [])) Scratch (λ st. done (hooks_mean names hook_names list limits false n hs (v ∷ o ∷ [])) (stored member v st))
      (λ st. done (λ st. laid_calls.hooks_mean names hook_names list limits false n hs (local_of st offset_slot ∷ local_of st (value_slot signed) ∷ []) st)
      (stored member (local_of (set_local (value_slot signed) v st) (value_slot signed)) (set_local (value_slot signed) v st)))
  hooked false member hs l o b c v st ts r =
      subst (λ ts. Agree Scratch (done (hooks_mean names hook_names list limits false n hs (v ∷ o ∷ [])) (stored member v st))
      (done (λ st. laid_calls.hooks_mean names hook_names list limits false n hs (local_of st offset_slot ∷ local_of st 1 ∷ []) st) (stored member (local_of (set_local 1 v ts) 1) (set_local 1 v ts)))) (sym r)
      (done_agree (Framed (o ∷ v ∷ c ∷ [])) Scratch (λ st ts r. record { offset = o; unsigned = v; signed = c; are = r }) _ _ (stored member v st) (stored member v (framed (o ∷ v ∷ c ∷ []) st))
      (stored_alike (o ∷ v ∷ c ∷ []) member v st (framed (o ∷ v ∷ c ∷ []) st) refl)
      (λ st ts r. widened o v c _ _
      (alike (o ∷ v ∷ c ∷ []) (hooks_mean names hook_names list limits false n hs (v ∷ o ∷ [])) (λ st. laid_calls.hooks_mean names hook_names list limits false n hs (local_of st offset_slot ∷ local_of st 1 ∷ []) st)
      (λ st. hooks_alike false hs (o ∷ v ∷ c ∷ []) (v ∷ o ∷ []) l st (framed (o ∷ v ∷ c ∷ []) st) refl) st ts r)))
  hooked true member hs l o b c v st ts r =
      subst (λ ts. Agree Scratch (done (hooks_mean names hook_names list limits false n hs (v ∷ o ∷ [])) (stored member v st))
      (done (λ st. laid_calls.hooks_mean names hook_names list limits false n hs (local_of st offset_slot ∷ local_of st 2 ∷ []) st) (stored member (local_of (set_local 2 v ts) 2) (set_local 2 v ts)))) (sym r)
      (done_agree (Framed (o ∷ b ∷ v ∷ [])) Scratch (λ st ts r. record { offset = o; unsigned = b; signed = v; are = r }) _ _ (stored member v st) (stored member v (framed (o ∷ b ∷ v ∷ []) st))
      (stored_alike (o ∷ b ∷ v ∷ []) member v st (framed (o ∷ b ∷ v ∷ []) st) refl)
      (λ st ts r. widened o b v _ _
      (alike (o ∷ b ∷ v ∷ []) (hooks_mean names hook_names list limits false n hs (v ∷ o ∷ [])) (λ st. laid_calls.hooks_mean names hook_names list limits false n hs (local_of st offset_slot ∷ local_of st 2 ∷ []) st)
      (λ st. hooks_alike false hs (o ∷ b ∷ v ∷ []) (v ∷ o ∷ []) l st (framed (o ∷ b ∷ v ∷ []) st) refl) st ts r)))

  -- a field with its hooks
  field_same : (form : IntegerForm) (member : Option ℕ) (hs : List ℕ) → AreHanded list 2 hs
      → Loose (field_means names hook_names list limits reads n form member hs) (laid.field_means names hook_names list limits reads n form member hs)
  field_same form member [] l =
      loose (field_means names hook_names list limits reads n form member []) (laid.field_means names hook_names list limits reads n form member [])
      (λ a b c. then_got (Framed (a ∷ b ∷ c ∷ [])) _ _ _ _ (integer_alike (a ∷ b ∷ c ∷ []) reads (width_bytes form.width) form.little form.signed) (λ v. stored_alone (a ∷ b ∷ c ∷ []) member v))
  field_same form member (h ∷ hs) l = λ st ts r.
      let o = offset_here st in
      subst (λ ts. Agree Scratch (field_means names hook_names list limits reads n form member (h ∷ hs) st) (laid.field_means names hook_names list limits reads n form member (h ∷ hs) ts)) (sym r.are)
      (got_agree (Framed (o ∷ r.unsigned ∷ r.signed ∷ [])) Scratch (λ st ts q. record { offset = o; unsigned = r.unsigned; signed = r.signed; are = q }) _ _ _ _
      (integer_alike (o ∷ r.unsigned ∷ r.signed ∷ []) reads (width_bytes form.width) form.little form.signed st (framed (o ∷ r.unsigned ∷ r.signed ∷ []) st) refl)
      (λ v. hooked form.signed member (h ∷ hs) l o r.unsigned r.signed v))

  part_same : (o : Option ℕ) (x : Part) → PartStands list x → Loose (part_means names hook_names list limits reads n o x) (laid.part_means names hook_names list limits reads n o x)
  part_same o (field f) s = known_same Scratch (integer_field o f) _ _ (λ form. field_same form f.member f.hooks s)
  part_same o _ s = nothing Scratch

  parts_same : (o : Option ℕ) (xs : Parts) → PartsStand list xs → Loose (parts_mean names hook_names list limits reads n o xs) (laid.parts_mean names hook_names list limits reads n o xs)
  parts_same o no_parts s = at_once Scratch Fine
  parts_same o (more_parts x xs) s = then_done Scratch _ _ _ _ (part_same o x s.0) (parts_same o xs s.1)

  begin_same : (ms : List Member) (vs : List Variable) → Loose (variables_begin names hook_names list limits reads ms vs) (laid.variables_begin names hook_names list limits reads ms vs)
  begin_same ms [] = at_once Scratch Fine
  begin_same ms (v ∷ vs) =
      then_done Scratch _ _ _ _
      (loose (λ st. put_member (unit st.self) v.member (first_value (globals_of list).ranges (slice_get ms v.member)) st) (λ st. put_member (unit st.self) v.member (first_value (globals_of list).ranges (slice_get ms v.member)) st)
      (λ a b c. put_own (a ∷ b ∷ c ∷ []) v.member (first_value (globals_of list).ranges (slice_get ms v.member))))
      (begin_same ms vs)

  variable_same : (m : ℕ) (e : Option Expr) → ValueStands list.functions e → Loose (variable_means names hook_names list limits reads n m e) (laid.variable_means names hook_names list limits reads n m e)
  variable_same m (Some e) s =
      loose (variable_means names hook_names list limits reads n m (Some e)) (laid.variable_means names hook_names list limits reads n m (Some e))
      (λ a b c. then_got (Framed (a ∷ b ∷ c ∷ [])) _ _ _ _
      (expr_same (globals_of list) list.functions (with_arguments []) unit_layout (a ∷ b ∷ c ∷ []) (unit_placed a b c) false (λ q. absurd (let z : false ≡ true = q in cc))
      (call_means names hook_names list limits n) (laid_calls.call_means names hook_names list limits n) (calls_same names hook_names list limits stands n (a ∷ b ∷ c ∷ [])) e s)
      (λ v. put_own (a ∷ b ∷ c ∷ []) m v))
  variable_same m None s = at_once Scratch Fine

  variables_same : (vs : List Variable) → VariablesStand list.functions vs → Loose (variables_mean names hook_names list limits reads n vs) (laid.variables_mean names hook_names list limits reads n vs)
  variables_same [] s = at_once Scratch Fine
  variables_same (v ∷ vs) s = then_done Scratch _ _ _ _ (variable_same v.member v.value s.0) (variables_same vs s.1)

  abbrev HooksStand : ℕ → Type 0
  HooksStand u = (name : HookName) → AreHanded list 0 (hook_bodies (is_of_unit u name) list.hooks)

  hook_same : (failing : Bool) (u : ℕ) (name : HookName) → HooksStand u → Loose (unit_hook_means names hook_names list limits reads failing n u name) (laid.unit_hook_means names hook_names list limits reads failing n u name)
  hook_same failing u name handed =
      loose (unit_hook_means names hook_names list limits reads failing n u name) (laid.unit_hook_means names hook_names list limits reads failing n u name)
      (λ a b c. hooks_alike failing (hook_bodies (is_of_unit u name) list.hooks) (a ∷ b ∷ c ∷ []) [] (handed name))

  -- from the beginning to `%done`
  unit_parts_same : (u : ℕ) (x : TypedUnit) → UnitStands list u x
      → Loose (unit_parts_mean names hook_names list limits reads n u x) (laid.unit_parts_mean names hook_names list limits reads n u x)
  unit_parts_same u x s st ts r =
      let order = unit_order names hook_names list limits reads x in
      let begin : State → Result = laid.variables_begin names hook_names list limits reads x.members x.variables in
      let variables : State → Result = laid.variables_mean names hook_names list limits reads n x.variables in
      let init : State → Result = laid.unit_hook_means names hook_names list limits reads false n u Init in
      let read : State → Result = laid.parts_mean names hook_names list limits reads n order (parts x.parts) in
      let last : State → Result = laid.unit_hook_means names hook_names list limits reads false n u Done in
      subst (λ y. Agree Scratch (unit_parts_mean names hook_names list limits reads n u x st) y)
      (sym (done_done last read (done init (done variables (begin ts))) ∙ done_done (λ st. done last (read st)) init (done variables (begin ts)) ∙ done_done (λ st. done (λ st. done last (read st)) (init st)) variables (begin ts)))
      (then_done Scratch _ _ _ _ (begin_same x.members x.variables)
      (then_done Scratch _ _ _ _ (variables_same x.variables s.variables)
      (then_done Scratch _ _ _ _ (hook_same false u Init s.hooks)
      (then_done Scratch _ _ _ _ (parts_same order (parts x.parts) s.of_parts) (hook_same false u Done s.hooks)))) st ts r)

  -- what leaves a unit that fails
  fails_same : (e : running.Error) (how : End) (st ts : State) → Behind Scratch how st ts → Agree Scratch (left (InFailing e) how st) (left (InFailing e) how ts)
  fails_same e (Need m) st ts b = here tt
  fails_same e Fine st ts b = here b
  fails_same e (Failed x) st ts b = here b
  fails_same e Backs st ts b = here b
  fails_same e Rejected st ts b = here b
  fails_same e _ st ts b = here tt

  failing_same : (u : ℕ) (e : running.Error) → HooksStand u → Loose (failing_means names hook_names list limits reads n u e) (laid.failing_means names hook_names list limits reads n u e)
  failing_same u e handed = λ st ts r.
      ended Scratch Scratch (left (InFailing e)) (left (InFailing e)) (fails_same e) _ _ (then_done Scratch _ _ _ _ (hook_same true u Error handed) (hook_same true u Finally handed) st ts r)

  left_same : (u : ℕ) → HooksStand u → (how : End) (st ts : State) → Behind Scratch how st ts → Agree Scratch (parts_left names hook_names list limits reads n u how st) (laid.parts_left names hook_names list limits reads n u how ts)
  left_same u handed Fine st ts b = hook_same false u Finally handed st ts b
  left_same u handed (Failed e) st ts b = chosen_same Scratch (ends_fiber e.kind) (ends (Failed e)) (ends (Failed e)) _ _ (at_once Scratch (Failed e)) (failing_same u e handed) st ts b
  left_same u handed Backs st ts b = here b
  left_same u handed Rejected st ts b = here b
  left_same u handed (Need m) st ts b = here tt
  left_same u handed _ st ts b = here tt

  -- what leaves a unit has the locals outside at hand again
  leaves_same : (keeps : Bool) (instance start self : ℕ) (locals : List Val) (how : End) (st ts : State) → Behind Scratch how st ts
      → Agree Equal (left (InUnit keeps instance start self locals) how st) (left (InUnit keeps instance start self locals) how ts)
  leaves_same keeps instance start self locals (Need m) st ts b = here tt
  leaves_same keeps instance start self locals Fine st ts b = here (outside_equal self locals st ts b)
  leaves_same keeps instance start self locals (Failed e) st ts b = here (outside_equal self locals st ts b)
  leaves_same keeps instance start self locals Backs st ts b = here (outside_equal self locals st ts b)
  leaves_same keeps instance start self locals Rejected st ts b = here (outside_equal self locals st ts b)
  leaves_same keeps instance start self locals _ st ts b = here tt

  -- a unit, once its turn and its depth are counted
  entered_same : (u : ℕ) (x : TypedUnit) (vs : List Val) → slice_get list.units u ≡ Some x
      → Same Equal Equal (entered_means names hook_names list limits reads n u x (reverse vs)) (laid.entered_means names hook_names list limits reads n u x vs)
  entered_same u x vs e st ts r =
      subst (λ ts. Agree Equal (entered_means names hook_names list limits reads n u x (reverse vs) st) (laid.entered_means names hook_names list limits reads n u x vs ts)) r
      (ended Scratch Equal _ _ (leaves_same x.uses_input (length st.instances) st.now.place st.self st.locals) _ _
      (ended Scratch Scratch _ _ (left_same u (stands.units u x e).hooks) _ _
      (unit_parts_same u x (stands.units u x e) (unit_begun names hook_names list limits reads u x (reverse vs) st) (laid.unit_begun names hook_names list limits reads u x vs st)
      (record { offset = _; unsigned = _; signed = _; are = refl }))))

  pub unit_same : (u : ℕ) (vs : List Val) (st : State) → Agree Equal (unit_means names hook_names list limits reads n u (reverse vs) st) (laid.unit_means names hook_names list limits reads n u vs st)
  unit_same u vs st = by_unit (slice_get list.units u) refl st st refl
    where
      by_unit : (o : Option TypedUnit) → slice_get list.units u ≡ o
          → Both Equal (known o (λ x. chosen (is_plain x.filter x.sinks) (counted names hook_names list limits (entered_means names hook_names list limits reads n u x (reverse vs))) (ends Unfinished)))
          (known o (λ x st. chosen (is_plain x.filter x.sinks) (λ st. done (λ st. done (laid.entered_means names hook_names list limits reads n u x vs) (deeper limits.depth st)) (turn limits.turns st)) (ends Unfinished) st))
      by_unit None e = nothing Equal
      by_unit (Some x) e =
          chosen_same Equal (is_plain x.filter x.sinks) _ _ _ _
          (λ st ts r.
          subst (λ y. Agree Equal y (done (λ st. done (laid.entered_means names hook_names list limits reads n u x vs) (deeper limits.depth st)) (turn limits.turns ts)))
          (sym (done_done (entered_means names hook_names list limits reads n u x (reverse vs)) (deeper limits.depth) (turn limits.turns st)))
          (then_done Equal _ _ _ _ (equally (turn limits.turns)) (then_done Equal _ _ _ _ (equally (deeper limits.depth)) (entered_same u x vs e)) st ts r))
          (nothing Equal)

pub meanings_are_one : MeaningsAreOne
meanings_are_one names hook_names list limits reads stands n u vs st = unit_same names hook_names list limits reads stands n u vs st
