-- Where the answers of constants and labels stand, and what they are where they are settled.
use Rattle.std.specs.Prelude.{◌==◌, ◌≤◌, nat_lt, if◌then◌else◌}
use Rattle.std.specs.List.{list_all}
use Rattle.std.proofs.Common.{ℕ, ◌≡◌, ◌<◌, ◌+◌, ◌-◌, zero, suc, Bool, true, false, refl, sym, ap, subst, ◌∙◌, arith, List, [], ◌∷◌, ◌++◌, length, take, Option, Some, None, slice_get}
use Rattle.std.proofs.lemmas.Bool.{and_parts, and_from}
use Rattle.std.proofs.lemmas.Bool.Decides.{nat_tests}
use Rattle.sp_ast.specs.Trees.{Tree}
use Rattle.sp_value.specs.Val.{enum}
use Rattle.sp_types.specs.declared.words.Word.TheVariants as word_is
use Rattle.sp_types.specs.Types.{Ty, word}
use Rattle.sp_solver.specs.declared.attempt.Attempt.{Attempt}
use Rattle.sp_solver.specs.Rounds.{got, round, IsSettled}
use Rattle.sp_dependencies.specs.Tries.{first_open, when_open, nowhere, tries}
use Rattle.sp_dependencies.specs.TryLaws.{try_within, when_done}
use Rattle.sp_names.specs.declared.rows.Declaration.{Declaration}
use Rattle.sp_names.specs.declared.sort.DeclSort.{DeclSort}
use Rattle.sp_names.specs.declared.sort.DeclSort.TheVariants as sort_is
use Rattle.sp_names.specs.Declarations.{rows, sort_of, sort_or, sort_at, sort_number, all_of, all_from, declaration_at, number_in, number_at, library_enums, type_tree_of}
use Rattle.sp_names.specs.Names.{declaration_of, enum_labels, own_labels, labels_of}
use Rattle.sp_names.specs.Types.{one_or_none}
use Rattle.sp_ast.specs.Views.{present}
use Rattle.sp_type_constants.specs.declared.outcome.Outcome.{Outcome}
use Rattle.sp_type_constants.specs.declared.outcome.Outcome.TheVariants as outcome_is
use Rattle.sp_type_constants.specs.Outcomes.{used}
use Rattle.sp_rule_lists.specs.Told.{constant_outcome, constant_told}
use Rattle.sp_type_values.specs.declared.valued.Valued.{Valued}
use Rattle.sp_type_values.specs.declared.valued.Valued.TheVariants as valued_is
use Rattle.sp_type_values.specs.declared.answer.Answer.{Answer}
use Rattle.sp_type_values.specs.Valued.{number_tree, if_constant, constants_among, constants, label_of, labels_from, declared_labels, labels_before, labels, valued, constant_place, own_place, label_place, needs}
use Rattle.sp_type_values.specs.Answers.{answer_at, value_or, type_or, written_of, constant_type, constant_value, label_value, answer_of, gives}
use Rattle.sp_type_values.specs.TypedRows.{shown_value, next_constant, if_declared, constants_from, typed_constants}
use Rattle.sp_law_lists.specs.known_types.Full.{is_full}
use Rattle.sp_law_lists.proofs.known_types_lemmas.Full.{never}
use Rattle.sp_law_lists.specs.known_values.Values.{fits}
use Rattle.sp_law_lists.proofs.whole_list_lemmas.Modules.{none_found, some_found}
use Rattle.sp_law_lists.specs.known_constants.Good.{is_good, is_answered, are_answered}
use Rattle.sp_law_lists.proofs.known_constants_lemmas.Declarations.{is_constant_sort}

-- what fits a type still does where it is named, and where it is told
pub used_fits : (t : Ty) (o : Outcome) → fits t o ≡ true → fits t (used o) ≡ true
used_fits t outcome_is.NotConstant e = refl
used_fits t _ e = e

told_fits : (t : Ty) (o : Outcome) → fits t o ≡ true → fits t (used (constant_outcome (shown_value o))) ≡ true
told_fits t (outcome_is.Value v) e = e
told_fits t (outcome_is.Regex text) e = e
told_fits t outcome_is.NotConstant e = refl
told_fits t outcome_is.Error e = refl
told_fits t outcome_is.Unknown e = never e

pub equal_itself : (n : ℕ) → (n == n) ≡ true
equal_itself n = grind (arith, nat_tests)

equal_numbers : (m n : ℕ) → (m == n) ≡ true → m ≡ n
equal_numbers m n e = grind (arith, nat_tests)

type_good : (w : Option Ty) (o : Option Answer) → is_answered o ≡ true → is_full (type_or w o) ≡ true
type_good None None e = never e
type_good (Some t) None e = never e
type_good None (Some a) e = (and_parts (is_full a.ty) (fits a.ty a.value) e).0
type_good (Some t) (Some a) e = (and_parts (is_full a.ty) (fits a.ty a.value) e).0

value_good : (w : Option Ty) (o : Option Answer) → is_answered o ≡ true → fits (type_or w o) (value_or o) ≡ true
value_good None None e = never e
value_good (Some t) None e = never e
value_good None (Some a) e = (and_parts (is_full a.ty) (fits a.ty a.value) e).1
value_good (Some t) (Some a) e = (and_parts (is_full a.ty) (fits a.ty a.value) e).1

-- places in rows
pub behind_front : {A : Type 0} (xs ys : List A) (j : ℕ) → slice_get (xs ++ ys) (length xs + j) ≡ slice_get ys j
behind_front [] ys j = (let e : 0 + j ≡ j = omega arith in ap (slice_get ys) e)
behind_front (x ∷ xs) ys j =
    let e : suc (length xs) + j ≡ suc (length xs + j) = omega arith in
    ap (slice_get (x ∷ (xs ++ ys))) e ∙ behind_front xs ys j

-- the label of an enum
abbrev is_label : ℕ → Valued → Bool
is_label owner (valued_is.Constant m written value) = false
is_label owner (valued_is.Numbered x m number) = x == owner
is_label owner (valued_is.First x) = x == owner
is_label owner (valued_is.Next x) = x == owner

label_is : (owner m : ℕ) (first : Bool) (o : Option Tree) → is_label owner (label_of owner m first o) ≡ true
label_is owner m first (Some number) = equal_itself owner
label_is owner m true None = equal_itself owner
label_is owner m false None = equal_itself owner

labels_are : (owner m : ℕ) (first : Bool) (ts : List Tree) → list_all (is_label owner) (labels_from owner m first ts) ≡ true
labels_are owner m first [] = refl
labels_are owner m first (t ∷ ts) =
    and_from (is_label owner (label_of owner m first (present (number_tree t)))) (list_all (is_label owner) (labels_from owner m false ts)) (label_is owner m first (present (number_tree t))) (labels_are owner m false ts)

declared_are : (owner : ℕ) (o : Option Declaration) → list_all (is_label owner) (declared_labels owner o) ≡ true
declared_are owner None = refl
declared_are owner (Some d) = labels_are owner d.«module» true (enum_labels (type_tree_of d.tree))

label_at : (owner : ℕ) (vs : List Valued) (j : ℕ) (v : Valued) → list_all (is_label owner) vs ≡ true → slice_get vs j ≡ Some v → is_label owner v ≡ true
label_at owner [] j v all e = none_found v e
label_at owner (x ∷ vs) zero v all e = sym (ap (is_label owner) (some_found x v e)) ∙ (and_parts (is_label owner x) (list_all (is_label owner) vs) all).0
label_at owner (x ∷ vs) (suc j) v all e = label_at owner vs j v (and_parts (is_label owner x) (list_all (is_label owner) vs) all).1 e

-- where the labels of an enum of the list stand
before_front : {A : Type 0} (xs ys : List A) (j : ℕ) → j < length xs → slice_get (xs ++ ys) j ≡ slice_get xs j
before_front [] ys j lt = absurd (let z : ⊥ = omega (arith, lt) in z)
before_front (x ∷ xs) ys zero lt = refl
before_front (x ∷ xs) ys (suc j) lt = before_front xs ys j (omega (arith, lt))

long : {A : Type 0} (xs ys : List A) → length (xs ++ ys) ≡ length xs + length ys
long [] ys = (let e : length ys ≡ 0 + length ys = omega arith in e)
long (x ∷ xs) ys = (let h = long xs ys in omega (arith, h))

found_below : {A : Type 0} (xs : List A) (n : ℕ) (x : A) → slice_get xs n ≡ Some x → n < length xs
found_below [] n x e = none_found x e
found_below (y ∷ xs) zero x e = omega arith
found_below (y ∷ xs) (suc n) x e = (let h = found_below xs n x e in omega (arith, h))

module _ (list : List Tree) where
  abbrev own_row : ℕ → List Valued
  own_row k = declared_labels (library_enums + k) (declaration_of list (slice_get (all_of sort_is.Enum list) k))

  as_many_labels : (owner m : ℕ) (first : Bool) (ts : List Tree) → length (labels_from owner m first ts) ≡ length ts
  as_many_labels owner m first [] = refl
  as_many_labels owner m first (t ∷ ts) = ap suc (as_many_labels owner m false ts)

  as_many_declared : (owner : ℕ) (o : Option Declaration) → length (declared_labels owner o) ≡ length (labels_of o)
  as_many_declared owner None = refl
  as_many_declared owner (Some d) = as_many_labels owner d.«module» true (enum_labels (type_tree_of d.tree))

  rises : (n k : ℕ) → k < n → length (labels_before list k) + length (own_row k) ≤ length (labels_before list n)
  rises zero k lt = absurd (let z : ⊥ = omega (arith, lt) in z)
  rises (suc n) k lt = by (k == n) refl (rises n k)
    where
      by : (b : Bool) → (k == n) ≡ b → (k < n → length (labels_before list k) + length (own_row k) ≤ length (labels_before list n)) → length (labels_before list k) + length (own_row k) ≤ length (labels_before list n ++ own_row n)
      by true e next =
          let same : k ≡ n = grind (arith, nat_tests) in
          let both = long (labels_before list n) (own_row n) in
          subst (λ j. length (labels_before list j) + length (own_row j) ≤ length (labels_before list n ++ own_row n)) (sym same) (omega (arith, both))
      by false e next =
          let before : k < n = grind (arith, nat_tests) in
          let h = next before in
          let both = long (labels_before list n) (own_row n) in
          let z : length (labels_before list k) + length (own_row k) ≤ length (labels_before list n ++ own_row n) = omega (arith, h, both) in
          z

  enum_there : (k i : ℕ) → i < length (own_labels list k) → k < length (all_of sort_is.Enum list)
  enum_there k i below = by (slice_get (all_of sort_is.Enum list) k) refl below
    where
      by : (o : Option ℕ) → slice_get (all_of sort_is.Enum list) k ≡ o → i < length (labels_of (declaration_of list o)) → k < length (all_of sort_is.Enum list)
      by None at h = absurd (let z : ⊥ = omega (arith, h) in z)
      by (Some g) at h = found_below (all_of sort_is.Enum list) k g at

  label_in : (n k i : ℕ) (v : Valued) → k < n → i < length (own_row k) → slice_get (labels_before list n) (length (labels_before list k) + i) ≡ Some v → is_label (library_enums + k) v ≡ true
  label_in zero k i v lt below e = absurd (let z : ⊥ = omega (arith, lt) in z)
  label_in (suc n) k i v lt below e = by (k == n) refl (label_in n k i v)
    where
      by : (b : Bool) → (k == n) ≡ b → (k < n → i < length (own_row k) → slice_get (labels_before list n) (length (labels_before list k) + i) ≡ Some v → is_label (library_enums + k) v ≡ true) → is_label (library_enums + k) v ≡ true
      by true is next =
          let same : k ≡ n = grind (arith, nat_tests) in
          let here : slice_get (own_row n) i ≡ Some v = sym (behind_front (labels_before list n) (own_row n) i) ∙ subst (λ j. slice_get (labels_before list n ++ own_row n) (length (labels_before list j) + i) ≡ Some v) same e in
          subst (λ j. is_label (library_enums + j) v ≡ true) (sym same) (label_at (library_enums + n) (own_row n) i v (declared_are (library_enums + n) (declaration_of list (slice_get (all_of sort_is.Enum list) n))) here)
      by false is next =
          let before : k < n = grind (arith, nat_tests) in
          let h = rises n k before in
          let within : length (labels_before list k) + i < length (labels_before list n) = omega (arith, h, below) in
          next before below (sym (before_front (labels_before list n) (own_row n) (length (labels_before list k) + i) within) ∙ e)

module _ (list : List Tree) (f : ℕ → Option Ty) where
  -- how many constants stand before one
  one_fewer : (s : DeclSort) (d : Declaration) (vs : List Valued) (xs : List ℕ) (h : ℕ) → length xs < length vs → length (if sort_number s == 6 then h ∷ xs else xs) < length (if_constant list f d s ++ vs)
  one_fewer sort_is.Constant d vs xs h lt = omega (arith, lt)
  one_fewer _ d vs xs h lt = lt

  fewer : (ds : List Declaration) (h g : ℕ) (d : Declaration) → slice_get ds g ≡ Some d → sort_of d.tree ≡ sort_is.Constant → length (all_from sort_is.Constant h (take g ds)) < length (constants_among list f ds)
  fewer [] h g d at is = none_found d at
  fewer (x ∷ ds) h zero d at is =
      let s : sort_of x.tree ≡ sort_is.Constant = ap (λ (y : Declaration). sort_of y.tree) (some_found x d at) ∙ is in
      subst (λ s. 0 < length (if_constant list f x s ++ constants_among list f ds)) (sym s) (omega arith)
  fewer (x ∷ ds) h (suc g) d at is = one_fewer (sort_of x.tree) x (constants_among list f ds) (all_from sort_is.Constant (suc h) (take g ds)) h (fewer ds (suc h) g d at is)

  pub constant_there : (g : ℕ) → sort_at list g ≡ sort_is.Constant → number_at list g < length (constants list f)
  constant_there g e = by (declaration_at list g) refl
    where
      by : (o : Option Declaration) → declaration_at list g ≡ o → number_at list g < length (constants list f)
      by None at = never (sym (ap (λ o. is_constant_sort (sort_or o)) at) ∙ ap is_constant_sort e)
      by (Some d) at =
          let s : sort_of d.tree ≡ sort_is.Constant = sym (ap sort_or at) ∙ e in
          subst (λ n. n < length (constants list f)) (sym (ap (number_in (rows list) g) e)) (fewer (rows list) 0 g d at s)

  pub place_is : (n : ℕ) → n < length (constants list f) → constant_place list f n ≡ Some n
  place_is n lt =
      let b : nat_lt n (length (constants list f)) ≡ true = grind (arith, nat_tests) in
      ap (λ b. if b then Some n else None) b

  module _ (known : ℕ → Option Answer) where
    pub constant_typed : (n : ℕ) → n < length (constants list f) → is_answered (known n) ≡ true → is_full (constant_type list f known n) ≡ true
    constant_typed n lt e =
        let w = written_of (slice_get (valued list f) n) in
        ap (λ p. is_full (type_or w (answer_at known p))) (place_is n lt) ∙ type_good w (known n) e

    pub constant_fits : (n : ℕ) → n < length (constants list f) → is_answered (known n) ≡ true → fits (constant_type list f known n) (constant_value list f known n) ≡ true
    constant_fits n lt e =
        let w = written_of (slice_get (valued list f) n) in
        ap (λ p. fits (type_or w (answer_at known p)) (value_or (answer_at known p))) (place_is n lt) ∙ value_good w (known n) e

    -- what the typed list tells of a constant
    abbrev Tells : List Declaration → ℕ → ℕ → Type 0
    Tells ds n k = constant_told (slice_get (constants_from list f known n ds) k) ≡ constant_outcome (shown_value (constant_value list f known (n + k)))

    one_tells : (s : DeclSort) (d : Declaration) (ds : List Declaration) (n k : ℕ) → ((m j : ℕ) → j < length (constants_among list f ds) → Tells ds m j) → k < length (if_constant list f d s ++ constants_among list f ds)
        → constant_told (slice_get (if_declared list f known n d s ++ constants_from list f known (next_constant list f known n s) ds) k) ≡ constant_outcome (shown_value (constant_value list f known (n + k)))
    one_tells sort_is.Constant d ds n zero h lt =
        let e : n ≡ n + 0 = omega arith in
        ap (λ i. constant_outcome (shown_value (constant_value list f known i))) e
    one_tells sort_is.Constant d ds n (suc k) h lt =
        let e : suc n + k ≡ n + suc k = omega arith in
        h (suc n) k (omega (arith, lt)) ∙ ap (λ i. constant_outcome (shown_value (constant_value list f known i))) e
    one_tells _ d ds n k h lt = h n k lt

    all_tell : (ds : List Declaration) (n k : ℕ) → k < length (constants_among list f ds) → Tells ds n k
    all_tell [] n k lt = absurd (let z : ⊥ = omega (arith, lt) in z)
    all_tell (d ∷ ds) n k lt = one_tells (sort_of d.tree) d ds n k (all_tell ds) lt

    pub constant_tells : (n : ℕ) → n < length (constants list f) → is_answered (known n) ≡ true → fits (constant_type list f known n) (used (constant_told (slice_get (typed_constants list f known) n))) ≡ true
    constant_tells n lt e =
        let s : 0 + n ≡ n = omega arith in
        let t = constant_type list f known n in
        ap (λ o. fits t (used o)) (all_tell (rows list) 0 n lt)
        ∙ ap (λ i. fits t (used (constant_outcome (shown_value (constant_value list f known i))))) s
        ∙ told_fits t (constant_value list f known n) (constant_fits n lt e)

    -- where answers are settled
    abbrev all : ℕ
    all = length (valued list f)

    abbrev try : (ℕ → Option Answer) → ℕ → Attempt Answer
    try = tries all (needs list f) (gives list f)

    nowhere_got : (o : Option Answer) (i : ℕ) (a : Answer) → got (nowhere o i) ≡ Some a → o ≡ Some a
    nowhere_got None i a e = none_found a e
    nowhere_got (Some b) i a e = e

    pub in_row : (k i : ℕ) (a : Answer) → round try k i ≡ Some a → i < all
    in_row zero i a e = none_found a e
    in_row (suc k) i a e = by (λ h. in_row k i a h) (nat_lt i all) refl e
      where
        by : (round try k i ≡ Some a → i < all) → (b : Bool) → nat_lt i all ≡ b → got (if b then when_open (gives list f (round try k) i) (first_open (round try k) (needs list f i)) else nowhere (round try k i) i) ≡ Some a → i < all
        by before true c h = grind (arith, nat_tests)
        by before false c h = before (nowhere_got (round try k i) i a h)

    module _ (settled : IsSettled try known) where
      pub answer_is : (i : ℕ) (a : Answer) → known i ≡ Some a → gives list f known i ≡ a
      answer_is i a e =
          let k = settled.found i a e in
          let lt = in_row k.0 i a k.1 in
          (when_done (gives list f known i) a (first_open known (needs list f i)) (sym (try_within all (needs list f) (gives list f) known i lt) ∙ settled.solved i a e)).1

      -- the value of a label is one of its enum
      case_fits : (owner p : ℕ) (v : Valued) → is_label owner v ≡ true → is_good (answer_of list f known p (Some v)) ≡ true → fits (word (word_is.Enum owner)) (answer_of list f known p (Some v)).value ≡ true
      case_fits owner p (valued_is.Constant m written value) l e = never l
      case_fits owner p (valued_is.Numbered x m number) l e = subst (λ k. fits (word (word_is.Enum k)) (answer_of list f known p (Some (valued_is.Numbered x m number))).value ≡ true) (equal_numbers x owner l) e
      case_fits owner p (valued_is.First x) l e = subst (λ k. fits (word (word_is.Enum k)) (answer_of list f known p (Some (valued_is.First x))).value ≡ true) (equal_numbers x owner l) e
      case_fits owner p (valued_is.Next x) l e = subst (λ k. fits (word (word_is.Enum k)) (answer_of list f known p (Some (valued_is.Next x))).value ≡ true) (equal_numbers x owner l) e

      module _ (k i : ℕ) (lt : k < length (all_of sort_is.Enum list)) (below : i < length (own_row list k)) where
        abbrev own : ℕ
        own = library_enums + k

        abbrev at_place : ℕ
        at_place = length (labels_before list k) + i

        entry_fits : (p : ℕ) (a : Answer) (o : Option Valued) → slice_get (labels list) at_place ≡ o → answer_of list f known p o ≡ a → is_good a ≡ true → fits (word (word_is.Enum own)) a.value ≡ true
        entry_fits p a None at same good = sym (ap (λ (a : Answer). fits (word (word_is.Enum own)) a.value) same)
        entry_fits p a (Some v) at same good =
            sym (ap (λ (a : Answer). fits (word (word_is.Enum own)) a.value) same)
            ∙ case_fits own p v (label_in list (length (all_of sort_is.Enum list)) k i v lt below at) (ap is_good same ∙ good)

        label_fits : (a : Answer) → known (length (constants list f) + at_place) ≡ Some a → is_good a ≡ true → fits (word (word_is.Enum own)) a.value ≡ true
        label_fits a at good =
            let p = length (constants list f) + at_place in
            entry_fits p a (slice_get (labels list) at_place) refl (sym (ap (answer_of list f known p) (behind_front (constants list f) (labels list) at_place)) ∙ answer_is p a at) good

      -- the same, where it is answered
      pub placed_fits : (k i : ℕ) → i < length (own_labels list k) → is_answered (known (length (constants list f) + (length (labels_before list k) + i))) ≡ true
          → fits (word (word_is.Enum (library_enums + k))) (value_or (known (length (constants list f) + (length (labels_before list k) + i)))) ≡ true
      placed_fits k i below e = by (known (length (constants list f) + (length (labels_before list k) + i))) refl e
        where
          count : length (own_row list k) ≡ length (own_labels list k)
          count = as_many_declared list (library_enums + k) (declaration_of list (slice_get (all_of sort_is.Enum list) k))

          by : (o : Option Answer) → known (length (constants list f) + (length (labels_before list k) + i)) ≡ o → is_answered o ≡ true → fits (word (word_is.Enum (library_enums + k))) (value_or o) ≡ true
          by None at h = never h
          by (Some a) at h = (let c = count in label_fits k i (enum_there list k i below) (omega (arith, below, c)) a at h)

      pub value_fits : (owner n : ℕ) → are_answered known (one_or_none (label_place list f owner n)) ≡ true → fits (word (word_is.Enum owner)) (label_value list f known owner n) ≡ true
      value_fits owner n e = by (nat_lt owner library_enums) refl e
        where
          own : (k many before : ℕ) (c : Bool) → (c ≡ true → is_answered (known (many + (before + n))) ≡ true → fits (word (word_is.Enum (library_enums + k))) (value_or (known (many + (before + n)))) ≡ true)
              → are_answered known (one_or_none (if c then Some (many + before + n) else None)) ≡ true → fits (word (word_is.Enum (library_enums + k))) (value_or (answer_at known (if c then Some (many + before + n) else None))) ≡ true
          own k many before true fit h =
              let s : many + (before + n) ≡ many + before + n = omega arith in
              subst (λ p. is_answered (known p) ≡ true → fits (word (word_is.Enum (library_enums + k))) (value_or (known p)) ≡ true) s (fit refl) (and_parts (is_answered (known (many + before + n))) true h).0
          own k many before false fit h = refl

          by : (b : Bool) → nat_lt owner library_enums ≡ b → are_answered known (one_or_none (if b then None else own_place list f (owner - library_enums) n)) ≡ true
              → fits (word (word_is.Enum owner)) (if b then outcome_is.Value (enum owner n) else value_or (answer_at known (if b then None else own_place list f (owner - library_enums) n))) ≡ true
          by true is h = equal_itself owner
          by false is h =
              let k = owner - library_enums in
              let same : library_enums + k ≡ owner = grind (arith, nat_tests) in
              let place = nat_lt n (length (own_labels list k)) in
              subst (λ j. fits (word (word_is.Enum j)) (value_or (answer_at known (own_place list f k n))) ≡ true) same
              (own k (length (constants list f)) (length (labels_before list k)) place (λ c. (let below : n < length (own_labels list k) = grind (arith, nat_tests) in placed_fits k n below)) h)
