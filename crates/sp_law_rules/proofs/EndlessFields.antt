-- A conversion is found in a field exactly where conversions lead from the field to one that is made of itself.
use Rattle.std.specs.Prelude.{ℕ, zero, suc, ◌≤◌, Bool, true, false, nat_lt, List, [], ◌∷◌, ◌++◌, length, Option, Some, None, slice_get}
use Rattle.std.proofs.Common.{◌≡◌, ◌<◌, ◌⊎◌, inl, inr, refl, sym, ap, subst, ◌∙◌, arith}
use Rattle.std.proofs.lemmas.Bool.Decides.{nat_tests}
use Rattle.std.proofs.lemmas.List.{get_or_past}
use Rattle.sp_base.specs.declared.places.Span.{Span}
use Rattle.sp_ast.specs.Trees.{Tree}
use Rattle.sp_solver.specs.declared.attempt.Attempt.{Attempt}
use Rattle.sp_solver.specs.declared.attempt.Attempt.TheVariants.{Done, Waits}
use Rattle.sp_solver.specs.Rounds.{got, round, Within, IsSettled}
use Rattle.sp_solver.specs.Rows.{Among}
use Rattle.sp_solver.specs.Told.{told}
use Rattle.sp_solver.proofs.Rounds.{IsClosed, round_within}
use Rattle.sp_dependencies.specs.Endless as numbers
use Rattle.sp_dependencies.specs.Tries.{Hangs, AreBelow, IsInRange, first_open as first_unknown, when_open as when_unknown, tries as numbered_tries, open_or}
use Rattle.sp_dependencies.specs.TryLaws.{try_within, is_outside as outside_numbers}
use Rattle.sp_dependencies.proofs.Chains.{none_is_endless}
use Rattle.sp_types.specs.Types.{Ty, word}
use Rattle.sp_types.specs.declared.words.Word.TheVariants as word_is
use Rattle.sp_typed.specs.declared.words.Standing.TheVariants as standing_is
use Rattle.sp_type_context.specs.Contexts.{Around}
use Rattle.sp_type_operands.specs.Operands.{unknown}
use Rattle.sp_type_fields.specs.Fields.{field_type}
use Rattle.sp_type_fields.specs.Values.{Values}
use Rattle.sp_type_scopes.specs.Decorators.{with_self}
use Rattle.sp_type_modules.specs.Sources.{questions}
use Rattle.sp_type_modules.specs.declared.sources.Source.{Source}
use Rattle.sp_type_modules.specs.declared.sources.Source.TheVariants as source_is
use Rattle.sp_type_modules.specs.declared.sources.Question.{Question}
use Rattle.sp_type_members.specs.Opens.{open_in, field_open}
use Rattle.sp_type_members.specs.Endless.{unit_place, place_of}
use Rattle.sp_type_members.specs.Tries.{in_unit, source_type, try_in, try_unit, try_asked, tries, AreStored}
use Rattle.sp_type_members.specs.inside.Aligned.{are_in_row}
use Rattle.sp_type_members.specs.inside.Laws.{when_done, when_waits, is_fair}
use Rattle.sp_law_rules.specs.Conversions.{Conversion, members_in, UnitField, source_field, asked_field, field_behind, conversions_in, conversions_of, Takes, Leads, directly, through, IsEndless, ConversionsAreEndless, EndlessAreFound}
use Rattle.sp_law_rules.proofs.OpenConversions.{expr_first, among_front, among_back, among_parts, field_opens, place_is, place_among, open_place, all_known, open_there, field_same}

some_same : {A : Type 0} (a b : A) → Some a ≡ Some b → a ≡ b
some_same a b e = cc

no_some : {A : Type 0} (o : Option A) (a : A) → o ≡ None → o ≡ Some a → ⊥
no_some o a n s = (let x : None ≡ Some a = sym n ∙ s in cc)

by_option : {A : Type 0} (P : Type 0) (o : Option A) → (o ≡ None → P) → ((a : A) → o ≡ Some a → P) → P
by_option P None n s = n refl
by_option P (Some a) n s = s a refl

got_done : (t : Attempt Ty) (a : Ty) → got t ≡ Some a → t ≡ Done a
got_done (Done b) a e = cc
got_done (Waits j) a e = cc

done_not_waits : (a : Ty) (j : ℕ) → Done a ≡ Waits j → ⊥
done_not_waits a j e = cc

some_below : {A : Type 0} (xs : List A) (j : ℕ) (x : A) → slice_get xs j ≡ Some x → j < length xs
some_below [] j x e = absurd (no_some None x refl e)
some_below (y ∷ xs) zero x e = omega arith
some_below (y ∷ xs) (suc j) x e = (let h = some_below xs j x e in omega (arith, h))

none_past : {A : Type 0} (xs : List A) (i : ℕ) → i < length xs → slice_get xs i ≡ None → ⊥
none_past [] i lt e = (let z : ⊥ = omega (arith, lt) in z)
none_past (x ∷ xs) zero lt e = no_some (Some x) x e refl
none_past (x ∷ xs) (suc i) lt e = none_past xs i (omega (arith, lt)) e

-- numbers that have answers, and one that has none
all_unknown : {A : Type 0} (f : ℕ → Option A) (js : List ℕ) → ((j : ℕ) → Among js j → (a : A) × (f j ≡ Some a)) → first_unknown f js ≡ None
all_unknown f [] h = refl
all_unknown f (j ∷ js) h = (let k = h j (inl refl) in ap (λ o. open_or o j (first_unknown f js)) k.1 ∙ all_unknown f js (λ i m. h i (inr m)))

some_unknown : {A : Type 0} (f : ℕ → Option A) (js : List ℕ) (j : ℕ) → Among js j → f j ≡ None → (k : ℕ) × (first_unknown f js ≡ Some k)
some_unknown f [] j m n = absurd m
some_unknown {A} f (i ∷ js) j m n = by (λ m. some_unknown f js j m n) (f i) refl m
  where
    by : (Among js j → (k : ℕ) × (first_unknown f js ≡ Some k)) → (o : Option A) → f i ≡ o → Among (i ∷ js) j → (k : ℕ) × (open_or o i (first_unknown f js) ≡ Some k)
    by rest None u m = (i, refl)
    by rest (Some a) u (inl is) = absurd (no_some (f i) a (ap f is ∙ n) u)
    by rest (Some a) u (inr m) = rest m

-- those below a number
only : Bool → ℕ → List ℕ
only true j = j ∷ []
only false j = []

those_below : ℕ → List ℕ → List ℕ
those_below n [] = []
those_below n (j ∷ js) = only (nat_lt j n) j ++ those_below n js

below_among : (n : ℕ) (js : List ℕ) (j : ℕ) → Among js j → j < n → Among (those_below n js) j
unfolding those_below only
below_among n [] j m lt = absurd m
below_among n (i ∷ js) j (inl is) lt = among_front (only (nat_lt i n) i) (those_below n js) j (by (nat_lt i n) refl)
  where
    by : (b : Bool) → nat_lt i n ≡ b → Among (only b i) j
    by true e = inl is
    by false e = absurd (let z : ⊥ = grind (arith, nat_tests) in z)
below_among n (i ∷ js) j (inr m) lt = among_back (only (nat_lt i n) i) (those_below n js) j (below_among n js j m lt)

among_below : (n : ℕ) (js : List ℕ) (j : ℕ) → Among (those_below n js) j → Among js j × (j < n)
unfolding those_below only
among_below n [] j m = absurd m
among_below n (i ∷ js) j m = by (λ m. among_below n js j m) (among_parts (only (nat_lt i n) i) (those_below n js) j m)
  where
    first : (b : Bool) → nat_lt i n ≡ b → Among (only b i) j → Among (i ∷ js) j × (j < n)
    first true e (inl is) = (inl is, (let z : i < n = grind (arith, nat_tests) in omega (arith, z, is)))
    first true e (inr m) = absurd m
    first false e m = absurd m

    by : (Among (those_below n js) j → Among js j × (j < n)) → Among (only (nat_lt i n) i) j ⊎ Among (those_below n js) j → Among (i ∷ js) j × (j < n)
    by rest (inl m) = first (nat_lt i n) refl m
    by rest (inr m) = (let h = rest m in (inr h.0, h.1))

are_below : (n : ℕ) (js : List ℕ) → ((j : ℕ) → Among js j → j < n) → AreBelow n js
are_below n [] h = tt
are_below n (j ∷ js) h = (h j (inl refl), are_below n js (λ i m. h i (inr m)))

-- all members that conversions take
all_members : List Tree → List Conversion → List ℕ
all_members list [] = []
all_members list (c ∷ cs) = members_in list c.value ++ all_members list cs

into_all : (list : List Tree) (cs : List Conversion) (c : Conversion) (j : ℕ) → Among cs c → Among (members_in list c.value) j → Among (all_members list cs) j
unfolding all_members
into_all list [] c j h m = absurd h
into_all list (d ∷ cs) c j (inl is) m = among_front (members_in list d.value) (all_members list cs) j (subst (λ c. Among (members_in list c.value) j) (sym is) m)
into_all list (d ∷ cs) c j (inr h) m = among_back (members_in list d.value) (all_members list cs) j (into_all list cs c j h m)

out_of_all : (list : List Tree) (cs : List Conversion) (j : ℕ) → Among (all_members list cs) j → (c : Conversion) × Among cs c × Among (members_in list c.value) j
unfolding all_members
out_of_all list [] j m = absurd m
out_of_all list (d ∷ cs) j m = by (λ m. out_of_all list cs j m) (among_parts (members_in list d.value) (all_members list cs) j m)
  where
    by : (Among (all_members list cs) j → (c : Conversion) × Among cs c × Among (members_in list c.value) j) → Among (members_in list d.value) j ⊎ Among (all_members list cs) j → (c : Conversion) × Among (d ∷ cs) c × Among (members_in list c.value) j
    by rest (inl m) = (d, inl refl, m)
    by rest (inr m) = (let h = rest m in (h.0, inr h.1, h.2))

answer_or : Option Ty → Ty
answer_or (Some t) = t
answer_or None = unknown

module _ (list : List Tree) (contexts : List Around) (v : Values) (types : List (Option Ty)) (stored : AreStored list contexts v types) where
  abbrev Count : ℕ
  Count = length (questions list)

  abbrev Final : ℕ → Option Ty
  Final = told types

  abbrev Round : ℕ → ℕ → Option Ty
  Round k = round (tries list contexts v) k

  abbrev Conversions : UnitField → List Conversion
  Conversions x = conversions_of list contexts v Final x

  abbrev Behind : ℕ → Option UnitField
  Behind j = field_behind list j

  within_final : (k : ℕ) → Within (Round k) Final
  within_final k =
      let c : IsClosed (tries list contexts v) Final = record { solved = stored.settled.solved; stuck = stored.settled.stuck } in
      round_within (tries list contexts v) (is_fair list contexts v) Final c k

  -- what is tried for a source
  tried : (ℕ → Option Ty) → ℕ → Source → Option Around → Attempt Ty
  tried f n s None = Done unknown
  tried f n s (Some g) = try_in list Count f (in_unit list f n g) v s

  is_tried : (f : ℕ → Option Ty) (q : Question) (o : Option Around) → try_unit list Count f v q o ≡ tried f q.unit q.source o
  unfolding tried
  is_tried f q None = refl
  is_tried f q (Some g) = refl

  -- where a field has its answer, all that its conversions take had theirs before
  context_known : (f : ℕ → Option Ty) → Within f Final → (x : UnitField) (a : Ty) (o : Option Around) → tried f x.unit (source_is.Field x.tree) o ≡ Done a
      → (c : Conversion) (j : ℕ) → Among (conversions_in list v Final x o) c → Among (members_in list c.value) j → j < Count → (t : Ty) × (f j ≡ Some t)
  unfolding tried
  context_known f w x a None e c j h m lt = absurd h
  context_known f w x a (Some g) e c j h m lt =
      let early = in_unit list f x.unit g in
      let opened = (when_done (field_type early v x.tree) a (field_open list Count f early v x.tree) e).0 in
      let same = field_same list Count (are_in_row list) f Final w v (with_self (word (word_is.Unit x.unit)) standing_is.Meant g) x.tree opened in
      let there = subst (λ cs. Among cs c) same h in
      let none_open = sym (field_opens list Count f early v x.tree) ∙ opened in
      (expr_first list Count f c.value).none (all_known list Count f _ c none_open there) j m lt

  source_known : (f : ℕ → Option Ty) → Within f Final → (n : ℕ) (s : Source) (x : UnitField) (a : Ty) → source_field n s ≡ Some x → tried f n s (slice_get contexts n) ≡ Done a
      → (c : Conversion) (j : ℕ) → Among (Conversions x) c → Among (members_in list c.value) j → j < Count → (t : Ty) × (f j ≡ Some t)
  source_known f w n (source_is.Field t) x a is e c j h m lt =
      let field : UnitField = record { unit = n; tree = t } in
      let same : field ≡ x = some_same field x is in
      context_known f w field a (slice_get contexts n) e c j (subst (λ y. Among (Conversions y) c) (sym same) h) m lt
  source_known f w n (source_is.Variable t) x a is e c j h m lt = absurd (no_some None x refl is)
  source_known f w n source_is.Sink x a is e c j h m lt = absurd (no_some None x refl is)

  taken_known : (f : ℕ → Option Ty) → Within f Final → (i : ℕ) (x : UnitField) (a : Ty) → Behind i ≡ Some x → tries list contexts v f i ≡ Done a
      → (c : Conversion) (j : ℕ) → Among (Conversions x) c → Among (members_in list c.value) j → j < Count → (t : Ty) × (f j ≡ Some t)
  taken_known f w i x a is e c j h m lt = by (slice_get (questions list) i) is e
    where
      by : (q : Option Question) → asked_field q ≡ Some x → try_asked list contexts v Count f i q ≡ Done a → (t : Ty) × (f j ≡ Some t)
      by None is e = absurd (no_some None x refl is)
      by (Some q) is e = source_known f w q.unit q.source x a is (sym (is_tried f q (slice_get contexts q.unit)) ∙ e) c j h m lt

  -- what waits is a field, and one of its conversions takes a member without an answer
  record Stuck (i : ℕ) : Type 0 where
    field : UnitField
    is : Behind i ≡ Some field
    conversion : Conversion
    own : Among (Conversions field) conversion
    member : ℕ
    takes : Among (members_in list conversion.value) member
    untold : Final member ≡ None
    below : member < Count

  context_stuck : (x : UnitField) (j : ℕ) (o : Option Around) → tried Final x.unit (source_is.Field x.tree) o ≡ Waits j
      → (c : Conversion) × Among (conversions_in list v Final x o) c × (k : ℕ) × (open_in list Count Final c.value ≡ Some k)
  unfolding tried
  context_stuck x j None e = absurd (done_not_waits unknown j e)
  context_stuck x j (Some g) e =
      let g = in_unit list Final x.unit g in
      let opened = when_waits (field_type g v x.tree) (field_open list Count Final g v x.tree) j e in
      let h = open_there list Count Final _ j (sym (field_opens list Count Final g v x.tree) ∙ opened) in
      (h.0, h.1, j, h.2)

  variable_done : (n : ℕ) (t : Tree) (j : ℕ) (o : Option Around) → tried Final n (source_is.Variable t) o ≡ Waits j → ⊥
  unfolding tried
  variable_done n t j None e = done_not_waits unknown j e
  variable_done n t j (Some g) e = done_not_waits (source_type (in_unit list Final n g) v (source_is.Variable t)) j e

  sink_done : (n j : ℕ) (o : Option Around) → tried Final n source_is.Sink o ≡ Waits j → ⊥
  unfolding tried
  sink_done n j None e = done_not_waits unknown j e
  sink_done n j (Some g) e = done_not_waits (source_type (in_unit list Final n g) v source_is.Sink) j e

  source_stuck : (i n : ℕ) (s : Source) (j : ℕ) → Behind i ≡ source_field n s → tried Final n s (slice_get contexts n) ≡ Waits j → Stuck i
  source_stuck i n (source_is.Field t) j is e =
      let x : UnitField = record { unit = n; tree = t } in
      let h = context_stuck x j (slice_get contexts n) e in
      let first = (expr_first list Count Final h.0.value).some h.2 h.3 in
      record { field = x; is = is; conversion = h.0; own = h.1; member = h.2; takes = first.0; untold = first.1; below = first.2 }
  source_stuck i n (source_is.Variable t) j is e = absurd (variable_done n t j (slice_get contexts n) e)
  source_stuck i n source_is.Sink j is e = absurd (sink_done n j (slice_get contexts n) e)

  is_stuck : (i : ℕ) → i < Count → Final i ≡ None → Stuck i
  is_stuck i lt u = by (slice_get (questions list) i) refl (stored.settled.stuck i u)
    where
      by : (q : Option Question) → slice_get (questions list) i ≡ q → (j : ℕ) × (try_asked list contexts v Count Final i (slice_get (questions list) i) ≡ Waits j) → Stuck i
      by None at s = absurd (none_past (questions list) i lt at)
      by (Some q) at s =
          let waits = ap (try_asked list contexts v Count Final i) (sym at) ∙ s.1 in
          source_stuck i q.unit q.source s.0 (ap asked_field at) (sym (is_tried Final q (slice_get contexts q.unit)) ∙ waits)

  -- the members that a member's conversions take, by numbers
  needs_of : Option UnitField → List ℕ
  needs_of None = []
  needs_of (Some x) = those_below Count (all_members list (Conversions x))

  needs : ℕ → List ℕ
  needs i = needs_of (Behind i)

  gives : (ℕ → Option Ty) → ℕ → Ty
  gives f i = answer_or (Final i)

  hangs : Hangs needs gives
  unfolding gives
  hangs f g i w e = refl

  in_range : IsInRange Count needs
  unfolding needs needs_of
  in_range i lt = by (Behind i)
    where
      by : (o : Option UnitField) → AreBelow Count (needs_of o)
      by None = tt
      by (Some x) = are_below Count (those_below Count (all_members list (Conversions x))) (λ j m. (among_below Count (all_members list (Conversions x)) j m).1)

  -- a step by numbers is one between fields
  record Step (i j : ℕ) : Type 0 where
    field : UnitField
    is : Behind i ≡ Some field
    conversion : Conversion
    own : Among (Conversions field) conversion
    takes : Among (members_in list conversion.value) j
    below : j < Count

  step : (i j : ℕ) → Among (needs i) j → Step i j
  unfolding needs needs_of
  step i j m = by (Behind i) refl m
    where
      by : (o : Option UnitField) → Behind i ≡ o → Among (needs_of o) j → Step i j
      by None is m = absurd m
      by (Some x) is m =
          let b = among_below Count (all_members list (Conversions x)) j m in
          let h = out_of_all list (Conversions x) j b.0 in
          record { field = x; is = is; conversion = h.0; own = h.1; takes = h.2; below = b.1 }

  stuck_needs : (i : ℕ) (s : Stuck i) → Among (needs i) s.member
  unfolding needs needs_of
  stuck_needs i s =
      subst (λ o. Among (needs_of o) s.member) (sym s.is)
      (below_among Count (all_members list (Conversions s.field)) s.member (into_all list (Conversions s.field) s.conversion s.member s.own s.takes) s.below)

  needs_known : (f : ℕ → Option Ty) → Within f Final → (i : ℕ) (a : Ty) → tries list contexts v f i ≡ Done a → (j : ℕ) → Among (needs i) j → (t : Ty) × (f j ≡ Some t)
  needs_known f w i a e j m = (let s = step i j m in taken_known f w i s.field a s.is e s.conversion j s.own s.takes s.below)

  final_below : (i : ℕ) (a : Ty) → Final i ≡ Some a → i < Count
  final_below i a e = by (nat_lt i Count) refl
    where
      by : (b : Bool) → nat_lt i Count ≡ b → i < Count
      by true t = (let z : i < Count = grind (arith, nat_tests) in z)
      by false t =
          let le : Count ≤ i = grind (arith, nat_tests) in
          let past : length types ≤ i = omega (arith, le, stored.all) in
          absurd (no_some (Final i) a (get_or_past types i None past) e)

  answer_is : (i : ℕ) (a : Ty) → Final i ≡ Some a → (f : ℕ → Option Ty) → gives f i ≡ a
  unfolding gives answer_or
  answer_is i a e f = ap answer_or e

  abbrev Numbered : (ℕ → Option Ty) → ℕ → Attempt Ty
  Numbered = numbered_tries Count needs gives

  numbered_done : (f : ℕ → Option Ty) (i : ℕ) (a : Ty) → i < Count → Final i ≡ Some a → first_unknown f (needs i) ≡ None → Numbered f i ≡ Done a
  numbered_done f i a lt e n = try_within Count needs gives f i lt ∙ ap (when_unknown (gives f i)) n ∙ ap Done (answer_is i a e f)

  numbered_waits : (f : ℕ → Option Ty) (i j : ℕ) → i < Count → first_unknown f (needs i) ≡ Some j → Numbered f i ≡ Waits j
  numbered_waits f i j lt e = try_within Count needs gives f i lt ∙ ap (when_unknown (gives f i)) e

  found_too : (k i : ℕ) (a : Ty) → Round k i ≡ Some a → round Numbered k i ≡ Some a
  found_too zero i a e = absurd (no_some None a refl e)
  found_too (suc k) i a e =
      let f = within_final (suc k) i a e in
      let d = got_done (tries list contexts v (Round k) i) a e in
      let known : (j : ℕ) → Among (needs i) j → (t : Ty) × (round Numbered k j ≡ Some t) = λ j m. (let h = needs_known (Round k) (within_final k) i a d j m in (h.0, found_too k j h.0 h.1)) in
      ap got (numbered_done (round Numbered k) i a (final_below i a f) f (all_unknown (round Numbered k) (needs i) known))

  settled : IsSettled Numbered Final
  settled = record {
    solved = λ i a e. numbered_done Final i a (final_below i a e) e (all_unknown Final (needs i) (needs_known Final (λ i a e. e) i a (stored.settled.solved i a e)));
    stuck = λ i u. by i (nat_lt i Count) refl u;
    found = λ i a e. (let h = stored.settled.found i a e in (h.0, found_too h.0 i a h.1));
  }
    where
      by : (i : ℕ) (b : Bool) → nat_lt i Count ≡ b → Final i ≡ None → (j : ℕ) × (Numbered Final i ≡ Waits j)
      by i true t u =
          let lt : i < Count = grind (arith, nat_tests) in
          let s = is_stuck i lt u in
          let h = some_unknown Final (needs i) s.member (stuck_needs i s) s.untold in
          (h.0, numbered_waits Final i h.0 lt h.1)
      by i false t u = (let le : Count ≤ i = grind (arith, nat_tests) in outside_numbers Count needs gives Final i le u)

  -- from numbers to fields
  abbrev LeadsTo : UnitField → UnitField → Type 0
  LeadsTo x y = Leads list contexts v Final x y

  abbrev Endless : UnitField → Type 0
  Endless x = IsEndless list contexts v Final x

  leads : (i j : ℕ) (y : UnitField) → numbers.Leads needs i j → Behind j ≡ Some y → (x : UnitField) × (Behind i ≡ Some x) × LeadsTo x y
  leads i j y (numbers.one m) e = (let s = step i j m in (s.field, s.is, directly s.conversion s.own (j, s.takes, e)))
  leads i j y (numbers.more {j = k} m l) e =
      let h = leads k j y l e in
      let s = step i k m in
      (s.field, s.is, through s.conversion s.own (k, s.takes, h.1) h.2)

  begins : (i j : ℕ) → numbers.Leads needs i j → (x : UnitField) × (Behind i ≡ Some x)
  begins i j (numbers.one m) = (let s = step i j m in (s.field, s.is))
  begins i j (numbers.more {j = k} m l) = (let s = step i k m in (s.field, s.is))

  field_endless : (i : ℕ) → numbers.IsEndless needs i → (x : UnitField) × (Behind i ≡ Some x) × Endless x
  field_endless i (j, o, l) =
      let b = begins j j l in
      let h = leads j j b.0 l b.1 in
      let same : h.0 ≡ b.0 = some_same h.0 b.0 (sym h.1 ∙ b.1) in
      by b.0 b.1 (subst (λ x. LeadsTo x b.0) same h.2) o
    where
      by : (y : UnitField) → Behind j ≡ Some y → LeadsTo y y → (i ≡ j) ⊎ numbers.Leads needs i j → (x : UnitField) × (Behind i ≡ Some x) × Endless x
      by y is l (inl s) = (y, ap Behind s ∙ is, (y, inl refl, l))
      by y is l (inr m) = (let h = leads i j y m is in (h.0, h.1, (y, inr h.2, l)))

  none_endless : (j : ℕ) → j < Count → Final j ≡ None → (y : UnitField) × (Behind j ≡ Some y) × Endless y
  none_endless j lt u = field_endless j (none_is_endless Count needs gives hangs in_range types settled j lt u)

  -- a field that leads to one that is made of itself is made of one
  made_of : (x : UnitField) (c : Conversion) (y : UnitField) → Among (Conversions x) c → Takes list c.value y → Endless y → Endless x
  made_of x c y own takes (z, inl s, l) = (z, inr (directly c own (subst (λ y. Takes list c.value y) s takes)), l)
  made_of x c y own takes (z, inr m, l) = (z, inr (through c own takes m), l)

  record Next (x : UnitField) : Type 0 where
    conversion : Conversion
    own : Among (Conversions x) conversion
    field : UnitField
    takes : Takes list conversion.value field
    endless : Endless field

  next_on : (x y : UnitField) → LeadsTo x y → LeadsTo y y → Next x
  next_on x y (directly c own takes) l = record { conversion = c; own = own; field = y; takes = takes; endless = (y, inl refl, l) }
  next_on x y (through {y = z} c own takes m) l = record { conversion = c; own = own; field = z; takes = takes; endless = (y, inr m, l) }

  next_of : (x : UnitField) → Endless x → Next x
  next_of x (y, inl s, l) = next_on x y (subst (λ z. LeadsTo z y) (sym s) l) l
  next_of x (y, inr m, l) = next_on x y m l

  field_below : (j : ℕ) (y : UnitField) → Behind j ≡ Some y → j < Count
  field_below j y e = by (slice_get (questions list) j) refl e
    where
      by : (q : Option Question) → slice_get (questions list) j ≡ q → asked_field q ≡ Some y → j < Count
      by None at is = absurd (no_some None y refl is)
      by (Some q) at is = some_below (questions list) j q at

  endless_open : (k i : ℕ) (a : Ty) (x : UnitField) → Behind i ≡ Some x → Endless x → Round k i ≡ Some a → ⊥
  endless_open zero i a x is e r = no_some None a refl r
  endless_open (suc k) i a x is e r =
      let n = next_of x e in
      let d = got_done (tries list contexts v (Round k) i) a r in
      let lt = field_below n.takes.0 n.field n.takes.2 in
      let h = taken_known (Round k) (within_final k) i x a is d n.conversion n.takes.0 n.own n.takes.1 lt in
      endless_open k n.takes.0 h.0 n.field n.takes.2 n.endless h.1

  endless_none : (i : ℕ) (x : UnitField) → Behind i ≡ Some x → Endless x → Final i ≡ None
  endless_none i x is e = by_option (Final i ≡ None) (Final i) (λ u. u) (λ a u. (let k = stored.settled.found i a u in absurd (endless_open k.0 i a x is e k.1)))

  -- what is found
  found_in : (x : UnitField) (at : Span) (o : Option Around) → unit_place list Count Final v x.unit x.tree o ≡ Some at
      → (c : Conversion) × Among (conversions_in list v Final x o) c × (c.place ≡ at) × (y : UnitField) × Takes list c.value y × Endless y
  found_in x at None e = absurd (no_some None at refl e)
  found_in x at (Some g) e =
      let g = in_unit list Final x.unit g in
      let h = place_among list Count Final _ at (sym (place_is list Count Final g v x.tree) ∙ e) in
      let first = (expr_first list Count Final h.0.value).some h.3 h.4 in
      let y = none_endless h.3 first.2 first.1 in
      (h.0, h.1, h.2, y.0, (h.3, first.0, y.1), y.2)

  pub found : (x : UnitField) (at : Span) → place_of list contexts v types x.unit x.tree ≡ Some at
      → ((c : Conversion) × Among (Conversions x) c × (c.place ≡ at) × (y : UnitField) × Takes list c.value y × Endless y) × Endless x
  found x at e = (let h = found_in x at (slice_get contexts x.unit) e in (h, made_of x h.0 h.3 h.1 h.4 h.5))

  -- and all that is made of itself is found
  place_in : (x : UnitField) (o : Option Around) (c : Conversion) (j : ℕ) → Among (conversions_in list v Final x o) c → Among (members_in list c.value) j → j < Count → Final j ≡ None
      → (at : Span) × (unit_place list Count Final v x.unit x.tree o ≡ Some at)
  place_in x None c j own m lt u = absurd own
  place_in x (Some g) c j own m lt u =
      let g = in_unit list Final x.unit g in
      let there : (k : ℕ) × (open_in list Count Final c.value ≡ Some k) =
      by_option ((k : ℕ) × (open_in list Count Final c.value ≡ Some k)) (open_in list Count Final c.value)
      (λ n. (let h = (expr_first list Count Final c.value).none n j m lt in absurd (no_some (Final j) h.0 u h.1)))
      (λ k s. (k, s)) in
      let h = open_place list Count Final _ c there.0 own there.1 in
      (h.0, place_is list Count Final g v x.tree ∙ h.1)

  pub endless_found : (x : UnitField) → Endless x → (at : Span) × (place_of list contexts v types x.unit x.tree ≡ Some at)
  endless_found x e =
      let n = next_of x e in
      let lt = field_below n.takes.0 n.field n.takes.2 in
      place_in x (slice_get contexts x.unit) n.conversion n.takes.0 n.own n.takes.1 lt (endless_none n.takes.0 n.field n.takes.2 n.endless)

pub conversions_are_endless : ConversionsAreEndless
conversions_are_endless list contexts v types stored x at e = found list contexts v types stored x at e

pub endless_are_found : EndlessAreFound
endless_are_found list contexts v types stored x e = endless_found list contexts v types stored x e
