-- By rounds: each answer of a constant and of a label is good, where no rule is broken, and each constant and each label has one.
use Rattle.std.specs.Prelude.{not}
use Rattle.std.proofs.Common.{ℕ, ◌≡◌, ◌<◌, ◌+◌, zero, suc, true, false, refl, sym, ap, subst, ◌∙◌, arith, List, [], ◌∷◌, ◌++◌, length, Option, Some, None, slice_get}
use Rattle.std.proofs.lemmas.Bool.{and_parts, and_from, not-true}
use Rattle.sp_ast.specs.Trees.{Tree}
use Rattle.sp_types.specs.Types.{Ty}
use Rattle.sp_typed_units.specs.declared.declarations.Typed.{Typed}
use Rattle.sp_solver.specs.declared.attempt.Attempt.{Attempt}
use Rattle.sp_solver.specs.declared.attempt.Attempt.TheVariants.{Done, Waits}
use Rattle.sp_solver.specs.Rounds.{got, round, Within}
use Rattle.sp_solver.proofs.Rounds.{round_within}
use Rattle.sp_dependencies.specs.Tries.{first_open, when_open, tries}
use Rattle.sp_dependencies.specs.TryLaws.{try_within, open_none, is_fair}
use Rattle.sp_names.specs.declared.sort.DeclSort.{DeclSort}
use Rattle.sp_names.specs.declared.sort.DeclSort.TheVariants as sort_is
use Rattle.sp_names.specs.declared.rows.Declaration.{Declaration}
use Rattle.sp_names.specs.Declarations.{rows, all_of, sort_of}
use Rattle.sp_rule_lists.specs.Lists.{all_tests}
use Rattle.sp_rule_lists.specs.Names.{constant_names}
use Rattle.sp_rule_lists.specs.Bodies.{declared_tests, lacks_value, inside_const, const_tests}
use Rattle.sp_type_values.specs.declared.valued.Valued.{Valued}
use Rattle.sp_type_values.specs.declared.answer.Answer.{Answer}
use Rattle.sp_type_values.specs.Valued.{if_constant, constants_among, constants, labels, valued, needs_of, needs}
use Rattle.sp_type_values.specs.Answers.{answer_at, value_or, answer_of, gives}
use Rattle.sp_type_values.specs.Laws.{hangs}
use Rattle.sp_type_values.specs.TypedRows.{shown_value, declared_constant, next_constant, if_declared, constants_from}
use Rattle.sp_law_lists.specs.known_types.Clear.{none_hold}
use Rattle.sp_law_lists.proofs.whole_list_lemmas.None.{none_parts}
use Rattle.sp_law_lists.proofs.whole_list_lemmas.Modules.{none_found, some_found}
use Rattle.sp_law_lists.specs.known_constants.Good.{is_good, is_answered, are_answered}
use Rattle.sp_law_lists.specs.known_constants.Given.{asked, AreUnbroken}
use Rattle.sp_law_lists.proofs.known_constants_lemmas.Declarations.{all_fine}
use Rattle.sp_law_lists.proofs.known_constants_lemmas.Places.{place_is, in_row, answer_is}
use Rattle.sp_law_lists.proofs.known_constants_lemmas.Constants.{EachFrom, Answers, constants_each}
use Rattle.sp_law_lists.proofs.known_constants_lemmas.Enums.{both_from, before_each}

pub each_at : (P : ℕ → Valued → Type 0) (n : ℕ) (vs : List Valued) (j : ℕ) (v : Valued) → EachFrom P n vs → slice_get vs j ≡ Some v → P (n + j) v
each_at P n [] j v h e = none_found v e
each_at P n (x ∷ vs) zero v h e =
    let s : n ≡ n + 0 = omega arith in
    subst (λ i. P i v) s (subst (P n) (some_found x v e) h.0)
each_at P n (x ∷ vs) (suc j) v h e =
    let s : suc n + j ≡ n + suc j = omega arith in
    subst (λ i. P i v) s (each_at P (suc n) vs j v h.1 e)

pub one_there : {A X : Type 0} (xs : List A) (i : ℕ) → i < length xs → slice_get xs i ≡ None → X
one_there [] i lt e = absurd (let z : ⊥ = omega (arith, lt) in z)
one_there (x ∷ xs) zero lt e = none_found x (sym e)
one_there (x ∷ xs) (suc i) lt e = one_there xs i (omega (arith, lt)) e

got_open : (a b : Answer) (o : Option ℕ) → got (when_open b o) ≡ Some a → o ≡ None
got_open a b None e = refl
got_open a b (Some j) e = none_found a e

pub by_some : {A X : Type 0} (o : Option A) → (o ≡ None → X) → ((a : A) → o ≡ Some a → X) → X
by_some None f g = f refl
by_some (Some a) f g = g a refl

-- what is answered by what is asked
pub answered_or : (o : Option Answer) → (o ≡ None → false ≡ true) → ((a : Answer) → o ≡ Some a → is_good a ≡ true) → is_answered o ≡ true
answered_or None none some = none refl
answered_or (Some a) none some = some a refl

module _ (list : List Tree) (f : ℕ → Option Ty) (known : ℕ → Option Answer) (t : Typed) (it : AreUnbroken list f known t) where
  abbrev all : ℕ
  all = length (valued list f)

  abbrev try : (ℕ → Option Answer) → ℕ → Attempt Answer
  try = tries all (needs list f) (gives list f)

  abbrev Good : ℕ → Valued → Type 0
  Good n v = Answers list f known t it n v

  each_good : EachFrom Good 0 (valued list f)
  each_good =
      let zero_more : 0 + length (constants list f) ≡ length (constants list f) = omega arith in
      let names = ap (λ xs. none_hold (all_tests constant_names xs)) (sym it.constants_are) ∙ it.constant_paths in
      let tests = ap (λ xs. none_hold (all_tests (const_tests (asked t)) xs)) (sym it.constants_are) ∙ it.constants in
      both_from Good 0 (constants list f) (labels list) (constants_each list f known t it (rows list) 0 (all_fine list f it.formed it.names) zero_more names tests)
      (subst (λ j. EachFrom Good j (labels list)) (sym zero_more) (before_each list f known t it (length (all_of sort_is.Enum list))))

  round_known : (k : ℕ) → Within (round try k) known
  round_known k = round_within try (is_fair all (needs list f) (gives list f) (hangs list f)) known (record { solved = it.settled.solved; stuck = it.settled.stuck }) k

  needs_answered : (k : ℕ) (js : List ℕ) → ((j : ℕ) (a : Answer) → round try k j ≡ Some a → is_good a ≡ true) → first_open (round try k) js ≡ None → are_answered known js ≡ true
  needs_answered k [] h e = refl
  needs_answered k (j ∷ js) h e =
      let o = open_none (round try k) j js e in
      and_from (is_answered (known j)) (are_answered known js) (ap is_answered (round_known k j o.0.0 o.0.1) ∙ h j o.0.0 o.0.1) (needs_answered k js h o.1)

  answer_good : (i : ℕ) (a : Answer) → i < all → known i ≡ Some a → are_answered known (needs list f i) ≡ true → is_good a ≡ true
  answer_good i a lt at h = by_some (slice_get (valued list f) i)
      (λ e. one_there (valued list f) i lt e)
      (λ v e. (
      let same : answer_of list f known i (Some v) ≡ a = sym (ap (answer_of list f known i) e) ∙ answer_is list f known it.settled i a at in
      let zero_more : 0 + i ≡ i = omega arith in
      let good = subst (λ j. Good j v) zero_more (each_at Good 0 (valued list f) i v each_good e) in
      sym (ap is_good same) ∙ good (at ∙ ap Some (sym same)) (sym (ap (λ o. are_answered known (needs_of list f i o)) e) ∙ h)
      ))

  rounds_good : (k i : ℕ) (a : Answer) → round try k i ≡ Some a → is_good a ≡ true
  rounds_good zero i a e = none_found a e
  rounds_good (suc k) i a e =
      let lt = in_row list f known (suc k) i a e in
      let tried = try_within all (needs list f) (gives list f) (round try k) i lt in
      let open_ = got_open a (gives list f (round try k) i) (first_open (round try k) (needs list f i)) (sym (ap got tried) ∙ e) in
      answer_good i a lt (round_known (suc k) i a e) (needs_answered k (needs list f i) (rounds_good k) open_)

  -- Each answer is of a full type, which its value fits.
  pub all_good : (i : ℕ) (a : Answer) → known i ≡ Some a → is_good a ≡ true
  all_good i a e =
      let k = it.settled.found i a e in
      rounds_good k.0 i a k.1

  -- what hangs on nothing that is open has an answer
  pub has_answer : (i : ℕ) → i < all → first_open known (needs list f i) ≡ None → known i ≡ None → false ≡ true
  has_answer i lt open_ e =
      let w = it.settled.stuck i e in
      let done : tries all (needs list f) (gives list f) known i ≡ Done (gives list f known i) = try_within all (needs list f) (gives list f) known i lt ∙ ap (when_open (gives list f known i)) open_ in
      absurd (let z : ⊥ = (let x : Done (gives list f known i) ≡ Waits w.0 = sym done ∙ w.1 in cc) in z)

  -- whether there is an answer
  abbrev pub Has : ℕ → Type 0
  Has i = known i ≡ None → false ≡ true

  constant_has : (s : DeclSort) (d : Declaration) (ds : List Declaration) (n j : ℕ) → n + length (if_constant list f d s ++ constants_among list f ds) ≡ length (constants list f)
      → none_hold (all_tests (const_tests (asked t)) (if_declared list f known n d s ++ constants_from list f known (next_constant list f known n s) ds)) ≡ true
      → ((m i : ℕ) → m + length (constants_among list f ds) ≡ length (constants list f) → none_hold (all_tests (const_tests (asked t)) (constants_from list f known m ds)) ≡ true → i < length (constants_among list f ds) → Has (m + i))
      → j < length (if_constant list f d s ++ constants_among list f ds) → Has (n + j)
  constant_has sort_is.Constant d ds n zero many tests rest lt e =
      let c = declared_constant list f known n d in
      let here : n + 0 ≡ n = omega arith in
      let below : n < length (constants list f) = omega (arith, many) in
      let a = none_parts (const_tests (asked t) c) (all_tests (const_tests (asked t)) (constants_from list f known (suc n) ds)) tests in
      let b = none_parts (declared_tests c.«module» c.ty c.written c.expr) _ a.0 in
      let lacks = not-true (lacks_value c.value) (and_parts (not (lacks_value c.value)) (none_hold (inside_const (asked t) c.«module» c.expr)) b.1).0 in
      let none = ap (λ p. lacks_value (shown_value (value_or (answer_at known p)))) (place_is list f n below) ∙ ap (λ o. lacks_value (shown_value (value_or o))) (sym (ap known here) ∙ e) in
      sym lacks ∙ none
  constant_has sort_is.Constant d ds n (suc j) many tests rest lt e =
      let c = declared_constant list f known n d in
      let s : suc n + j ≡ n + suc j = omega arith in
      let a = none_parts (const_tests (asked t) c) (all_tests (const_tests (asked t)) (constants_from list f known (suc n) ds)) tests in
      rest (suc n) j (omega (arith, many)) a.1 (omega (arith, lt)) (ap known s ∙ e)
  constant_has _ d ds n j many tests rest lt e = rest n j many tests lt e

  pub constants_have : (ds : List Declaration) (n j : ℕ) → n + length (constants_among list f ds) ≡ length (constants list f) → none_hold (all_tests (const_tests (asked t)) (constants_from list f known n ds)) ≡ true
      → j < length (constants_among list f ds) → Has (n + j)
  constants_have [] n j many tests lt e = absurd (let z : ⊥ = omega (arith, lt) in z)
  constants_have (d ∷ ds) n j many tests lt e = constant_has (sort_of d.tree) d ds n j many tests (λ m i a b c. constants_have ds m i a b c) lt e

  pub constant_answered : (n : ℕ) → n < length (constants list f) → is_answered (known n) ≡ true
  constant_answered n lt =
      let zero_more : 0 + length (constants list f) ≡ length (constants list f) = omega arith in
      let here : 0 + n ≡ n = omega arith in
      let tests = ap (λ xs. none_hold (all_tests (const_tests (asked t)) xs)) (sym it.constants_are) ∙ it.constants in
      answered_or (known n) (λ e. constants_have (rows list) 0 n zero_more tests lt (ap known here ∙ e)) (all_good n)
