-- The labels of a list that have values have them in the typed list too.
use Rattle.std.specs.Prelude.{◌-◌, ◌==◌, ◌^◌, nat_lt, if◌then◌else◌, unwrap_or}
use Rattle.std.proofs.Common.{ℕ, ◌≡◌, ◌<◌, ◌≤◌, ◌+◌, zero, suc, Bool, true, false, refl, sym, ap, subst, ◌∙◌, arith, List, [], ◌∷◌, ◌++◌, length, Option, Some, None, slice_get}
use Rattle.std.proofs.lemmas.Bool.Decides.{nat_tests}
use Rattle.sp_ast.specs.Trees.{Tree}
use Rattle.sp_ast.specs.Views.{present}
use Rattle.sp_value.specs.Val.{Val, uint, enum}
use Rattle.sp_types.specs.Types.{Ty}
use Rattle.sp_typed_units.specs.declared.declarations.LabelNumber.{LabelNumber}
use Rattle.sp_typed_units.specs.declared.declarations.LabelNumber.TheVariants as number_is
use Rattle.sp_solver.specs.Rounds.{IsSettled}
use Rattle.sp_dependencies.specs.Tries.{first_open, tries}
use Rattle.sp_dependencies.specs.TryLaws.{when_done, try_within}
use Rattle.sp_names.specs.declared.rows.Declaration.{Declaration}
use Rattle.sp_names.specs.declared.sort.DeclSort.TheVariants as sort_is
use Rattle.sp_names.specs.Declarations.{all_of, type_tree_of, library_enums}
use Rattle.sp_names.specs.Names.{library_labels, declaration_of, enum_labels, labels_of, own_labels}
use Rattle.sp_type_constants.specs.declared.outcome.Outcome.{Outcome}
use Rattle.sp_type_constants.specs.declared.outcome.Outcome.TheVariants.{Value, Regex, NotConstant, Error, Unknown}
use Rattle.sp_type_constants.specs.Labels.{label_value as labelled, next_label}
use Rattle.sp_type_values.specs.declared.answer.Answer.{Answer}
use Rattle.sp_type_values.specs.declared.valued.Valued.{Valued}
use Rattle.sp_type_values.specs.declared.valued.Valued.TheVariants as valued_is
use Rattle.sp_type_values.specs.Valued.{number_tree, constants, label_of, labels_from, declared_labels, labels_before, labels, own_place, valued, needs}
use Rattle.sp_type_values.specs.Answers.{answer_at, value_or, label_value, answer_of, gives}
use Rattle.sp_type_values.specs.Laws.{within}
use Rattle.sp_type_values.specs.TypedRows.{shown_number, or_past, own_number, number_at, labels_of_enum, declared_enum, own_enums, library_rows, typed_enums}
use Rattle.sp_meaning.specs.Globals.{number_of, label_numbers}
use Rattle.sp_meaning.specs.Globals as bodies

some_same : {A : Type 0} (a b : A) → Some a ≡ Some b → a ≡ b
some_same a b e = cc

pub no_some : {A : Type 0} (a : A) → None ≡ Some a → ⊥
no_some a e = cc

-- rows behind one another
pub skip : {A : Type 0} (xs ys : List A) (j : ℕ) → slice_get (xs ++ ys) (length xs + j) ≡ slice_get ys j
skip [] ys j = (let e : 0 + j ≡ j = omega arith in ap (slice_get ys) e)
skip (x ∷ xs) ys j =
    let e : suc (length xs) + j ≡ suc (length xs + j) = omega arith in
    ap (slice_get (x ∷ (xs ++ ys))) e ∙ skip xs ys j

pub before : {A : Type 0} (xs ys : List A) (j : ℕ) → j < length xs → slice_get (xs ++ ys) j ≡ slice_get xs j
before [] ys j lt = absurd (let z : ⊥ = omega (arith, lt) in z)
before (x ∷ xs) ys zero lt = refl
before (x ∷ xs) ys (suc j) lt = before xs ys j (omega (arith, lt))

long : {A : Type 0} (xs ys : List A) → length (xs ++ ys) ≡ length xs + length ys
long [] ys = (let e : length ys ≡ 0 + length ys = omega arith in e)
long (x ∷ xs) ys = (let h = long xs ys in omega (arith, h))

found_below : {A : Type 0} (xs : List A) (n : ℕ) (x : A) → slice_get xs n ≡ Some x → n < length xs
found_below [] n x e = absurd (no_some x e)
found_below (y ∷ xs) zero x e = omega arith
found_below (y ∷ xs) (suc n) x e = (let h = found_below xs n x e in omega (arith, h))

-- an entry of a label of an enum, and the value of one
IsLabel : ℕ → Valued → Type 0
IsLabel owner (valued_is.Constant m written value) = ⊥
IsLabel owner (valued_is.Numbered x m number) = x ≡ owner
IsLabel owner (valued_is.First x) = x ≡ owner
IsLabel owner (valued_is.Next x) = x ≡ owner

IsOf : ℕ → Val → Type 0
IsOf owner v = (n : ℕ) × (v ≡ enum owner n)

label_is : (owner m : ℕ) (at_first : Bool) (o : Option Tree) → IsLabel owner (label_of owner m at_first o)
unfolding IsLabel
label_is owner m at_first (Some number) = refl
label_is owner m true None = refl
label_is owner m false None = refl

entry_at : (owner m : ℕ) (at_first : Bool) (ts : List Tree) (i : ℕ) → i < length ts → (v : Valued) × (slice_get (labels_from owner m at_first ts) i ≡ Some v) × IsLabel owner v
entry_at owner m at_first [] i lt = absurd (let z : ⊥ = omega (arith, lt) in z)
entry_at owner m at_first (t ∷ ts) zero lt = (label_of owner m at_first (present (number_tree t)), refl, label_is owner m at_first (present (number_tree t)))
entry_at owner m at_first (t ∷ ts) (suc i) lt = entry_at owner m false ts i (omega (arith, lt))

declared_entry : (owner : ℕ) (o : Option Declaration) (i : ℕ) → i < length (labels_of o) → (v : Valued) × (slice_get (declared_labels owner o) i ≡ Some v) × IsLabel owner v
declared_entry owner None i lt = absurd (let z : ⊥ = omega (arith, lt) in z)
declared_entry owner (Some d) i lt = entry_at owner d.«module» true (enum_labels (type_tree_of d.tree)) i lt

labelled_is : (owner : ℕ) (o : Outcome) (v : Val) → labelled owner o ≡ Value v → IsOf owner v
unfolding IsOf
labelled_is owner (Value (uint w n)) v e = (n, cc)
labelled_is owner (Value _) v e = cc
labelled_is owner (Regex text) v e = cc
labelled_is owner NotConstant v e = cc
labelled_is owner Error v e = cc
labelled_is owner Unknown v e = cc

next_is : (owner : ℕ) (o : Outcome) (v : Val) → next_label owner o ≡ Value v → IsOf owner v
unfolding IsOf
next_is owner (Value (enum k n)) v e = by (nat_lt (n + 1) (2 ^ 64)) e
  where
    by : (b : Bool) → (if b then Value (enum owner (n + 1)) else Unknown) ≡ Value v → (j : ℕ) × (v ≡ enum owner j)
    by true e = (n + 1, cc)
    by false e = cc
next_is owner (Value _) v e = cc
next_is owner (Regex text) v e = cc
next_is owner NotConstant v e = cc
next_is owner Error v e = cc
next_is owner Unknown v e = cc

-- numbers in the rows of the library
library_number : (k j : ℕ) (ns : List (List ℕ)) → j < length ns → slice_get (label_numbers (library_rows k ns)) j ≡ Some (k + j)
library_number k j [] lt = absurd (let z : ⊥ = omega (arith, lt) in z)
library_number k zero (x ∷ ns) lt = (let e : k ≡ k + 0 = omega arith in ap Some e)
library_number k (suc j) (x ∷ ns) lt = (let e : suc k + j ≡ k + suc j = omega arith in library_number (suc k) j ns (omega (arith, lt)) ∙ ap Some e)

-- how many labels an enum has
abbrev pub listed : List Tree → ℕ → ℕ
listed list owner = if nat_lt owner library_enums then length (library_labels owner) else length (own_labels list (owner - library_enums))

module _ (list : List Tree) where
  own_row : ℕ → List Valued
  own_row k = declared_labels (library_enums + k) (declaration_of list (slice_get (all_of sort_is.Enum list) k))

  as_many_labels : (owner m : ℕ) (at_first : Bool) (ts : List Tree) → length (labels_from owner m at_first ts) ≡ length ts
  as_many_labels owner m at_first [] = refl
  as_many_labels owner m at_first (t ∷ ts) = ap suc (as_many_labels owner m false ts)

  as_many : (owner : ℕ) (o : Option Declaration) → length (declared_labels owner o) ≡ length (labels_of o)
  as_many owner None = refl
  as_many owner (Some d) = as_many_labels owner d.«module» true (enum_labels (type_tree_of d.tree))

  enum_there : (k i : ℕ) (o : Option ℕ) → slice_get (all_of sort_is.Enum list) k ≡ o → i < length (labels_of (declaration_of list o)) → (g : ℕ) × (slice_get (all_of sort_is.Enum list) k ≡ Some g)
  enum_there k i None at h = absurd (let z : ⊥ = omega (arith, h) in z)
  enum_there k i (Some g) at h = (g, at)

  -- where the labels of an enum stand among those of all
  rises : (n k : ℕ) → k < n → length (labels_before list k) + length (own_row k) ≤ length (labels_before list n)
  unfolding own_row
  rises zero k lt = absurd (let z : ⊥ = omega (arith, lt) in z)
  rises (suc n) k lt = by (k == n) refl (rises n k)
    where
      by : (b : Bool) → (k == n) ≡ b → (k < n → length (labels_before list k) + length (own_row k) ≤ length (labels_before list n)) → length (labels_before list k) + length (own_row k) ≤ length (labels_before list n ++ own_row n)
      by true e next =
          let same : k ≡ n = grind (arith, nat_tests) in
          let both = long (labels_before list n) (own_row n) in
          subst (λ j. length (labels_before list j) + length (own_row j) ≤ length (labels_before list n ++ own_row n)) (sym same) (omega (arith, both))
      by false e next =
          let less : k < n = grind (arith, nat_tests) in
          let h = next less in
          let both = long (labels_before list n) (own_row n) in
          let z : length (labels_before list k) + length (own_row k) ≤ length (labels_before list n ++ own_row n) = omega (arith, h, both) in
          z

  placed : (n k i : ℕ) → k < n → i < length (own_row k) → slice_get (labels_before list n) (length (labels_before list k) + i) ≡ slice_get (own_row k) i
  unfolding own_row
  placed zero k i lt below = absurd (let z : ⊥ = omega (arith, lt) in z)
  placed (suc n) k i lt below = by (k == n) refl (placed n k i)
    where
      by : (b : Bool) → (k == n) ≡ b → (k < n → i < length (own_row k) → slice_get (labels_before list n) (length (labels_before list k) + i) ≡ slice_get (own_row k) i)
          → slice_get (labels_before list n ++ own_row n) (length (labels_before list k) + i) ≡ slice_get (own_row k) i
      by true e next =
          let same : k ≡ n = grind (arith, nat_tests) in
          subst (λ j. slice_get (labels_before list n ++ own_row n) (length (labels_before list j) + i) ≡ slice_get (own_row j) i) (sym same) (skip (labels_before list n) (own_row n) i)
      by false e next =
          let less : k < n = grind (arith, nat_tests) in
          let h = rises n k less in
          let inside : length (labels_before list k) + i < length (labels_before list n) = omega (arith, h, below) in
          before (labels_before list n) (own_row n) (length (labels_before list k) + i) inside ∙ next less below

  module _ (f : ℕ → Option Ty) (known : ℕ → Option Answer) (settled : IsSettled (tries (length (valued list f)) (needs list f) (gives list f)) known) where
    pub answer_is : (i : ℕ) (a : Answer) → i < length (valued list f) → known i ≡ Some a → answer_of list f known i (slice_get (valued list f) i) ≡ a
    answer_is i a lt e =
        let all = length (valued list f) in
        (when_done (gives list f known i) a (first_open known (needs list f i)) (sym (try_within all (needs list f) (gives list f) known i lt) ∙ settled.solved i a e)).1

    entry_value : (owner p : ℕ) (x : Valued) (v : Val) → IsLabel owner x → (answer_of list f known p (Some x)).value ≡ Value v → IsOf owner v
    unfolding IsLabel IsOf
    entry_value owner p (valued_is.Constant m written value) v l e = absurd l
    entry_value owner p (valued_is.Numbered x m number) v l e = subst (λ k. (n : ℕ) × (v ≡ enum k n)) l (labelled_is x _ v e)
    entry_value owner p (valued_is.First x) v l e = subst (λ k. (n : ℕ) × (v ≡ enum k n)) l (0, cc)
    entry_value owner p (valued_is.Next x) v l e = subst (λ k. (n : ℕ) × (v ≡ enum k n)) l (next_is x (value_or (known (p - 1))) v e)

    value_some : (o : Option Answer) (v : Val) → value_or o ≡ Value v → (a : Answer) × (o ≡ Some a) × (a.value ≡ Value v)
    value_some None v e = cc
    value_some (Some a) v e = (a, refl, e)

    -- where a label of an enum of the list stands
    abbrev pub place : ℕ → ℕ → ℕ
    place k n = length (constants list f) + length (labels_before list k) + n

    pub entry_place : (k n : ℕ) → n < length (own_labels list k) → slice_get (valued list f) (place k n) ≡ slice_get (declared_labels (library_enums + k) (declaration_of list (slice_get (all_of sort_is.Enum list) k))) n
    unfolding own_row
    entry_place k n lt =
        let first = length (labels_before list k) in
        let g = enum_there k n (slice_get (all_of sort_is.Enum list) k) refl lt in
        let k_lt = found_below (all_of sort_is.Enum list) k g.0 g.1 in
        let count = as_many (library_enums + k) (declaration_of list (slice_get (all_of sort_is.Enum list) k)) in
        let sum : place k n ≡ length (constants list f) + (first + n) = omega arith in
        ap (slice_get (valued list f)) sum ∙ skip (constants list f) (labels list) (first + n) ∙ placed (length (all_of sort_is.Enum list)) k n k_lt (omega (arith, lt, count))

    pub answered_at : (k n : ℕ) (v : Val) → n < length (own_labels list k) → value_or (known (place k n)) ≡ Value v → (answer_of list f known (place k n) (slice_get (valued list f) (place k n))).value ≡ Value v
    answered_at k n v lt e =
        let here = value_some (known (place k n)) v e in
        let same = answer_is (place k n) here.0 (within list f k n lt) here.1 in
        ap (λ (a : Answer). a.value) same ∙ here.2

    -- the value of a label of an enum of the list is one of that enum
    own_value : (k n : ℕ) (v : Val) → n < length (own_labels list k) → value_or (known (place k n)) ≡ Value v → IsOf (library_enums + k) v
    own_value k n v lt e =
        let entry = declared_entry (library_enums + k) (declaration_of list (slice_get (all_of sort_is.Enum list) k)) n lt in
        let at = entry_place k n lt ∙ entry.1 in
        entry_value (library_enums + k) (place k n) entry.0 v entry.2 (ap (λ o. (answer_of list f known (place k n) o).value) (sym at) ∙ answered_at k n v lt e)

    if_placed : (p : ℕ) (c : Bool) (v : Val) → c ≡ true → value_or (answer_at known (if c then Some p else None)) ≡ Value v → value_or (known p) ≡ Value v
    if_placed p true v t e = e
    if_placed p false v t e = cc

    pub own_answer : (k n : ℕ) (v : Val) → n < length (own_labels list k) → label_value list f known (library_enums + k) n ≡ Value v → value_or (known (place k n)) ≡ Value v
    own_answer k n v lt e = by (nat_lt (library_enums + k) library_enums) refl e
      where
        by : (b : Bool) → nat_lt (library_enums + k) library_enums ≡ b → (if b then Value (enum (library_enums + k) n) else value_or (answer_at known (if b then None else own_place list f (library_enums + k - library_enums) n))) ≡ Value v
            → value_or (known (place k n)) ≡ Value v
        by true is e = absurd (let z : ⊥ = grind (arith, nat_tests) in z)
        by false is e =
            let same : library_enums + k - library_enums ≡ k = omega arith in
            let inside : nat_lt n (length (own_labels list k)) ≡ true = grind (arith, nat_tests) in
            if_placed (place k n) (nat_lt n (length (own_labels list k))) v inside (subst (λ j. value_or (answer_at known (own_place list f j n)) ≡ Value v) same e)

    -- and the typed list has its number
    number_kept : (past : LabelNumber) (n : ℕ) (l : LabelNumber) → l ≡ number_is.Number n → number_of (or_past past l) ≡ n
    number_kept (number_is.Number m) n (number_is.Number k) e = cc
    number_kept (number_is.Number m) n number_is.NotConstant e = cc
    number_kept (number_is.Number m) n number_is.Past e = cc
    number_kept (number_is.Number m) n number_is.Unknown e = cc
    number_kept number_is.NotConstant n l e = ap number_of e
    number_kept number_is.Past n l e = ap number_of e
    number_kept number_is.Unknown n l e = ap number_of e

    number_at_is : (owner i n : ℕ) (o : Option Tree) → own_number list f known owner i ≡ number_is.Number n → number_of (number_at list f known owner i o) ≡ n
    number_at_is owner i n (Some t) e = ap number_of e
    number_at_is owner i n None e = by (i == 0)
      where
        by : (b : Bool) → number_of (if b then own_number list f known owner i else or_past (own_number list f known owner (i - 1)) (own_number list f known owner i)) ≡ n
        by true = ap number_of e
        by false = number_kept (own_number list f known owner (i - 1)) n (own_number list f known owner i) e

    numbers_at : (owner m k : ℕ) (ts : List Tree) (i : ℕ) → i < length ts → (o : Option Tree) × (slice_get (label_numbers (labels_of_enum list f known owner m k ts)) i ≡ Some (number_of (number_at list f known owner (k + i) o)))
    numbers_at owner m k [] i lt = absurd (let z : ⊥ = omega (arith, lt) in z)
    numbers_at owner m k (t ∷ ts) zero lt =
        let e : k ≡ k + 0 = omega arith in
        (present (number_tree t), ap (λ j. Some (number_of (number_at list f known owner j (present (number_tree t))))) e)
    numbers_at owner m k (t ∷ ts) (suc i) lt =
        let h = numbers_at owner m (suc k) ts i (omega (arith, lt)) in
        let e : suc k + i ≡ k + suc i = omega arith in
        (h.0, h.1 ∙ ap (λ j. Some (number_of (number_at list f known owner j h.0))) e)

    declared_number : (owner n i : ℕ) (o : Option Declaration) → i < length (labels_of o) → label_value list f known owner i ≡ Value (enum owner n) → slice_get (label_numbers (declared_enum list f known owner o).labels) i ≡ Some n
    declared_number owner n i None lt e = absurd (let z : ⊥ = omega (arith, lt) in z)
    declared_number owner n i (Some d) lt e =
        let h = numbers_at owner d.«module» 0 (enum_labels (type_tree_of d.tree)) i lt in
        let z : 0 + i ≡ i = omega arith in
        h.1 ∙ ap (λ j. Some (number_of (number_at list f known owner j h.0))) z ∙ ap Some (number_at_is owner i n h.0 (ap shown_number e))

    enum_at : (gs : List ℕ) (n k g : ℕ) → slice_get gs k ≡ Some g → slice_get (bodies.enum_labels (own_enums list f known n gs)) k ≡ Some (label_numbers (declared_enum list f known (n + k) (declaration_of list (Some g))).labels)
    enum_at [] n k g at = absurd (no_some g at)
    enum_at (x ∷ gs) n zero g at =
        let e : n ≡ n + 0 = omega arith in
        ap (λ o. Some (label_numbers (declared_enum list f known n (declaration_of list o)).labels)) at ∙ ap (λ i. Some (label_numbers (declared_enum list f known i (declaration_of list (Some g))).labels)) e
    enum_at (x ∷ gs) n (suc k) g at =
        let e : suc n + k ≡ n + suc k = omega arith in
        enum_at gs (suc n) k g at ∙ ap (λ i. Some (label_numbers (declared_enum list f known i (declaration_of list (Some g))).labels)) e

    -- the number of a label in the typed list
    abbrev pub told_number : ℕ → ℕ → ℕ
    told_number owner n = unwrap_or (slice_get (unwrap_or (slice_get (bodies.enum_labels (typed_enums list f known)) owner) []) n) 0

    library_told : (owner n : ℕ) → owner < 4 → n < length (library_labels owner) → told_number owner n ≡ n
    library_told zero n lt there = (let e : 0 + n ≡ n = omega arith in ap (λ o. unwrap_or o 0) (library_number 0 n (library_labels 0) there) ∙ e)
    library_told (suc zero) n lt there = (let e : 0 + n ≡ n = omega arith in ap (λ o. unwrap_or o 0) (library_number 0 n (library_labels 1) there) ∙ e)
    library_told (suc (suc zero)) n lt there = (let e : 0 + n ≡ n = omega arith in ap (λ o. unwrap_or o 0) (library_number 0 n (library_labels 2) there) ∙ e)
    library_told (suc (suc (suc zero))) n lt there = (let e : 0 + n ≡ n = omega arith in ap (λ o. unwrap_or o 0) (library_number 0 n (library_labels 3) there) ∙ e)
    library_told (suc (suc (suc (suc owner)))) n lt there = absurd (let z : ⊥ = omega (arith, lt) in z)

    own_told : (k n m : ℕ) → n < length (own_labels list k) → label_value list f known (library_enums + k) n ≡ Value (enum (library_enums + k) m) → told_number (library_enums + k) n ≡ m
    own_told k n m lt e =
        let g = enum_there k n (slice_get (all_of sort_is.Enum list) k) refl lt in
        let owner = library_enums + k in
        let step : owner ≡ suc (suc (suc (suc k))) = omega arith in
        let there = ap (λ i. slice_get (bodies.enum_labels (typed_enums list f known)) i) step ∙ enum_at (all_of sort_is.Enum list) library_enums k g.0 g.1 in
        let labels_lt = subst (λ o. n < length (labels_of (declaration_of list o))) g.1 lt in
        ap (λ ls. unwrap_or (slice_get (unwrap_or ls []) n) 0) there ∙ ap (λ o. unwrap_or o 0) (declared_number owner m n (declaration_of list (Some g.0)) labels_lt e)

    pub label_told : (owner n : ℕ) (v : Val) → n < listed list owner → label_value list f known owner n ≡ Value v → enum owner (told_number owner n) ≡ v
    unfolding IsOf
    label_told owner n v there e = by (nat_lt owner library_enums) refl there e
      where
        own : (k : ℕ) → library_enums + k ≡ owner → n < length (own_labels list k) → enum owner (told_number owner n) ≡ v
        own k is lt =
            let value = ap (λ o. label_value list f known o n) is ∙ e in
            let of = own_value k n v lt (own_answer k n v lt value) in
            let same : enum (library_enums + k) of.0 ≡ v = sym of.1 in
            subst (λ o. enum o (told_number o n) ≡ v) is (ap (enum (library_enums + k)) (own_told k n of.0 lt (value ∙ ap Value of.1)) ∙ same)

        by : (b : Bool) → nat_lt owner library_enums ≡ b → n < (if b then length (library_labels owner) else length (own_labels list (owner - library_enums)))
            → (if b then Value (enum owner n) else value_or (answer_at known (if b then None else own_place list f (owner - library_enums) n))) ≡ Value v
            → enum owner (told_number owner n) ≡ v
        by true is lt e =
            let below : owner < 4 = grind (arith, nat_tests) in
            ap (enum owner) (library_told owner n below lt) ∙ (let z : enum owner n ≡ v = cc in z)
        by false is lt e = (let same : library_enums + (owner - library_enums) ≡ owner = grind (arith, nat_tests) in own (owner - library_enums) same lt)
