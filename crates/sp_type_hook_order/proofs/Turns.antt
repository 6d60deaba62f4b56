-- A list in order is the list of those whose turn it is.
use Rattle.std.proofs.Common.{ℕ, ◌≡◌, ◌+◌, ◌≤◌, ◌<◌, Bool, true, false, cond, zero, suc, refl, sym, ap, subst, ◌∙◌, arith, List, [], ◌∷◌, length, map, get_or}
use Rattle.std.specs.Prelude.{◌==◌, if◌then◌else◌, ◌||◌, ⊤}
use Rattle.std.specs.List.{count_by, list_any, All}
use Rattle.std.specs.List.Sorted.{IsPermutation, IsSortedBy}
use Rattle.std.specs.Cmp.{IsStrictWeakOrder}
use Rattle.std.proofs.lemmas.List.Sums.{sum_by-cons}
use Rattle.std.proofs.lemmas.List.{get_or-map, get_or_default}
use Rattle.std.proofs.lemmas.Bool.{eqb-true, eq-eqb}
use Rattle.std.proofs.lemmas.List.Sorted.{sum_by-IsPermutation, list_any-IsPermutation, All-permutation, length_permutation, sorted_far, IsPermutation-sym}
use Rattle.sp_type_hook_order.specs.Order.{numbers, first_that}

behind : (x k : ℕ) → x < k → (k == x) ≡ false
behind x k less = by (k == x) refl
  where
    by : (b : Bool) → (k == x) ≡ b → b ≡ false
    by true e = (let z : k ≡ x = eqb-true k x e in absurd (omega (arith, z, less)))
    by false e = refl

module _ {X : Type 0} where
  numbers_suc : (k : ℕ) (xs : List X) → numbers (suc k) xs ≡ map suc (numbers k xs)
  numbers_suc k [] = refl
  numbers_suc k (x ∷ xs) = ap (λ l. suc k ∷ l) (numbers_suc (suc k) xs)

  pub length_numbers : (k : ℕ) (xs : List X) → length (numbers k xs) ≡ length xs
  length_numbers k [] = refl
  length_numbers k (x ∷ xs) = ap suc (length_numbers (suc k) xs)

  -- each number stands once among the numbers of a row
  absent_below : (x k : ℕ) (xs : List X) → x < k → count_by (λ j. j == x) (numbers k xs) ≡ 0
  absent_below x k [] less = refl
  absent_below x k (y ∷ ys) less =
      sum_by-cons (λ j. cond (j == x) 1 0) k (numbers (suc k) ys)
      ∙ (let rest : count_by (λ j. j == x) (numbers (suc k) ys) ≡ 0 = absent_below x (suc k) ys (omega (arith, less)) in
      let none : 0 + count_by (λ j. j == x) (numbers (suc k) ys) ≡ 0 = omega (arith, rest) in
      ap (λ b. cond b 1 0 + count_by (λ j. j == x) (numbers (suc k) ys)) (behind x k less) ∙ none)

  once : (x k : ℕ) (xs : List X) → count_by (λ j. j == x) (numbers k xs) ≤ 1
  once x k [] = omega arith
  once x k (y ∷ ys) = subst (λ n. n ≤ 1) (sym (sum_by-cons (λ j. cond (j == x) 1 0) k (numbers (suc k) ys))) (by (k == x) refl (once x (suc k) ys))
    where
      by : (b : Bool) → (k == x) ≡ b → count_by (λ j. j == x) (numbers (suc k) ys) ≤ 1 → cond b 1 0 + count_by (λ j. j == x) (numbers (suc k) ys) ≤ 1
      by true e h =
          let same : k ≡ x = eqb-true k x e in
          let less : x < suc k = omega (arith, same) in
          let none : count_by (λ j. j == x) (numbers (suc k) ys) ≡ 0 = absent_below x (suc k) ys less in omega (arith, none)
      by false e h = omega (arith, h)

  -- what has the places of a row in order
  pub by_place : (f : ℕ → ℕ) (k : ℕ) (xs : List X) (ys : List ℕ) → length ys ≡ length xs → ((j : ℕ) → j < length ys → f (k + j) ≡ get_or ys j 0) → map f (numbers k xs) ≡ ys
  by_place f k [] [] e h = refl
  by_place f k [] (y ∷ ys) e h = (let z : suc (length ys) ≡ 0 = e in absurd (omega (arith, z)))
  by_place f k (x ∷ xs) [] e h = (let z : 0 ≡ suc (length xs) = e in absurd (omega (arith, z)))
  by_place f k (x ∷ xs) (y ∷ ys) e h =
      let here : f (k + 0) ≡ y = h 0 (omega arith) in
      let same : k ≡ k + 0 = omega arith in
      ap (λ a. a ∷ map f (numbers (suc k) xs)) (ap f same ∙ here)
      ∙ ap (λ l. y ∷ l) (by_place f (suc k) xs ys (let l : suc (length ys) ≡ suc (length xs) = e in omega (arith, l)) (λ j less. (
      let moved : suc k + j ≡ k + suc j = omega arith in ap f moved ∙ h (suc j) (omega (arith, less)))))

-- each of some stands behind one
abbrev AllAfter : (ℕ → ℕ → Bool) → ℕ → List ℕ → Type 0
AllAfter lt y [] = ⊤
AllAfter lt y (z ∷ zs) = (lt y z ≡ true) × AllAfter lt y zs

abbrev Rises : (ℕ → ℕ → Bool) → List ℕ → Type 0
Rises lt [] = ⊤
Rises lt (y ∷ ys) = AllAfter lt y ys × Rises lt ys

-- the laws of a test by which numbers are put in order
pub record Laws (lt : ℕ → ℕ → Bool) : Type 0 where
  pub not_itself : (x : ℕ) → lt x x ≡ false
  pub not_back : (x y : ℕ) → lt x y ≡ true → lt y x ≡ false
  pub one_way : (x y : ℕ) → lt x y ≡ false → (x == y) ≡ false → lt y x ≡ true

module _ (lt : ℕ → ℕ → Bool) (laws : Laws lt) where
  abbrev before : ℕ → List ℕ → ℕ
  before z ys = count_by (λ j. lt j z) ys

  one_more : (y z : ℕ) (ys : List ℕ) → before z (y ∷ ys) ≡ cond (lt y z) 1 0 + before z ys
  one_more y z ys = sum_by-cons (λ j. cond (lt j z) 1 0) y ys

  none_before : (y : ℕ) (zs : List ℕ) → AllAfter lt y zs → before y zs ≡ 0
  none_before y [] h = refl
  none_before y (z ∷ zs) h =
      let rest : before y zs ≡ 0 = none_before y zs h.1 in
      let none : 0 + before y zs ≡ 0 = omega (arith, rest) in
      one_more z y zs ∙ ap (λ b. cond b 1 0 + before y zs) (laws.not_back y z h.0) ∙ none

  moved : (y : ℕ) (zs ys : List ℕ) → AllAfter lt y zs → map (λ z. before z (y ∷ ys)) zs ≡ map suc (map (λ z. before z ys) zs)
  moved y [] ys h = refl
  moved y (z ∷ zs) ys h =
      let next : 1 + before z ys ≡ suc (before z ys) = omega arith in
      ap (λ n. n ∷ map (λ w. before w (y ∷ ys)) zs) (one_more y z ys ∙ ap (λ b. cond b 1 0 + before z ys) h.0 ∙ next)
      ∙ ap (λ l. suc (before z ys) ∷ l) (moved y zs ys h.1)

  -- before each of a list in order as many stand as its place says
  places : (ys : List ℕ) → Rises lt ys → map (λ z. before z ys) ys ≡ numbers 0 ys
  places [] h = refl
  places (y ∷ ys) h =
      let rest : before y ys ≡ 0 = none_before y ys h.0 in
      let none : 0 + before y ys ≡ 0 = omega (arith, rest) in
      ap (λ n. n ∷ map (λ z. before z (y ∷ ys)) ys) (one_more y y ys ∙ ap (λ b. cond b 1 0 + before y ys) (laws.not_itself y) ∙ none)
      ∙ ap (λ l. 0 ∷ l) (moved y ys ys h.0 ∙ ap (map suc) (places ys h.1) ∙ sym (numbers_suc 0 ys))

  after : (y : ℕ) (zs : List ℕ) → ((j : ℕ) → j < length zs → lt (get_or zs j 0) y ≡ false) → count_by (λ j. j == y) zs ≡ 0 → AllAfter lt y zs
  after y [] h none = tt
  after y (z ∷ zs) h none =
      let split : count_by (λ j. j == y) (z ∷ zs) ≡ cond (z == y) 1 0 + count_by (λ j. j == y) zs = sum_by-cons (λ j. cond (j == y) 1 0) z zs in
      let both : cond (z == y) 1 0 + count_by (λ j. j == y) zs ≡ 0 = sym split ∙ none in
      (laws.one_way z y (h 0 (omega arith)) (apart (z == y) (count_by (λ j. j == y) zs) both), after y zs (λ j less. h (suc j) (omega (arith, less))) (rest (z == y) (count_by (λ j. j == y) zs) both))
    where
      apart : (b : Bool) (n : ℕ) → cond b 1 0 + n ≡ 0 → b ≡ false
      apart true n e = absurd (let z : 1 + n ≡ 0 = e in omega (arith, z))
      apart false n e = refl

      rest : (b : Bool) (n : ℕ) → cond b 1 0 + n ≡ 0 → n ≡ 0
      rest true n e = absurd (let z : 1 + n ≡ 0 = e in omega (arith, z))
      rest false n e = (let z : 0 + n ≡ 0 = e in omega (arith, z))

  rises : (ys : List ℕ) → ((i j : ℕ) → i ≤ j → j < length ys → lt (get_or ys j 0) (get_or ys i 0) ≡ false) → ((x : ℕ) → count_by (λ j. j == x) ys ≤ 1) → Rises lt ys
  rises [] far single = tt
  rises (y ∷ ys) far single =
      let head : count_by (λ j. j == y) (y ∷ ys) ≡ cond (y == y) 1 0 + count_by (λ j. j == y) ys = sum_by-cons (λ j. cond (j == y) 1 0) y ys in
      let itself : (y == y) ≡ true = eq-eqb y y refl in
      let whole : count_by (λ j. j == y) (y ∷ ys) ≡ 1 + count_by (λ j. j == y) ys = head ∙ ap (λ b. cond b 1 0 + count_by (λ j. j == y) ys) itself in
      let most : count_by (λ j. j == y) (y ∷ ys) ≤ 1 = single y in (
        after y ys (λ j less. far 0 (suc j) (omega arith) (omega (arith, less))) (omega (arith, whole, most)),
        rises ys (λ i j le less. far (suc i) (suc j) (omega (arith, le)) (omega (arith, less))) (λ x. fewer x (y == x) (count_by (λ j. j == x) ys) (sum_by-cons (λ j. cond (j == x) 1 0) y ys) (single x)),
      )
    where
      fewer : (x : ℕ) (b : Bool) (n : ℕ) → count_by (λ j. j == x) (y ∷ ys) ≡ cond b 1 0 + n → count_by (λ j. j == x) (y ∷ ys) ≤ 1 → n ≤ 1
      fewer x true n e h = (let z : count_by (λ j. j == x) (y ∷ ys) ≡ 1 + n = e in omega (arith, z, h))
      fewer x false n e h = (let z : count_by (λ j. j == x) (y ∷ ys) ≡ 0 + n = e in omega (arith, z, h))

get_number : {X : Type 0} (k j d : ℕ) (xs : List X) → j < length xs → get_or (numbers k xs) j d ≡ k + j
get_number k j d [] less = absurd (let z : j < 0 = less in omega (arith, z))
get_number k zero d (x ∷ xs) less = (let z : k ≡ k + 0 = omega arith in z)
get_number k (suc j) d (x ∷ xs) less =
    let moved : suc k + j ≡ k + suc j = omega arith in
    get_number (suc k) j d xs (let z : suc j < suc (length xs) = less in omega (arith, z)) ∙ moved

any_at : (p : ℕ → Bool) (xs : List ℕ) (j : ℕ) → j < length xs → p (get_or xs j 0) ≡ true → list_any p xs ≡ true
any_at p [] j less here = absurd (let z : j < 0 = less in omega (arith, z))
any_at p (x ∷ xs) zero less here = ap (λ b. b || list_any p xs) here
any_at p (x ∷ xs) (suc j) less here = either (p x) (any_at p xs j (let z : suc j < suc (length xs) = less in omega (arith, z)) here)
  where
    either : (b : Bool) → list_any p xs ≡ true → (b || list_any p xs) ≡ true
    either true h = refl
    either false h = h

first_is : (p : ℕ → Bool) (v : ℕ) (xs : List ℕ) → list_any p xs ≡ true → All (λ i. p i ≡ true → i ≡ v) xs → first_that p xs ≡ v
first_is p v [] some only = absurd (let z : false ≡ true = some in cc)
first_is p v (x ∷ xs) some only = by (p x) refl some (λ h. first_is p v xs h (λ k d less. only (suc k) d (omega (arith, less))))
  where
    by : (b : Bool) → p x ≡ b → (b || list_any p xs) ≡ true → (list_any p xs ≡ true → first_that p xs ≡ v) → (if b then x else first_that p xs) ≡ v
    by true e h rest = only 0 0 (omega arith) e
    by false e h rest = rest h

module _ {X : Type 0} (lt : ℕ → ℕ → Bool) (laws : Laws lt) (weak : IsStrictWeakOrder lt) where
  -- A row's numbers in order: at each place stands the one before which so many stand.
  pub turns : (xs : List X) (ys : List ℕ) → IsPermutation (numbers 0 xs) ys → IsSortedBy lt ys
      → map (λ p. first_that (λ i. count_by (λ j. lt j i) (numbers 0 xs) == p) (numbers 0 xs)) (numbers 0 xs) ≡ ys
  turns xs ys moves sorted = by_place turn 0 xs ys long found
    where
      all : List ℕ
      all = numbers 0 xs

      turn : ℕ → ℕ
      turn p = first_that (λ i. count_by (λ j. lt j i) all == p) all

      long : length ys ≡ length xs
      long = length_permutation all ys moves ∙ length_numbers 0 xs

      single : (x : ℕ) → count_by (λ j. j == x) ys ≤ 1
      single x = subst (λ n. n ≤ 1) (sym (sum_by-IsPermutation (λ j. cond (j == x) 1 0) all ys moves)) (once x 0 xs)

      up : Rises lt ys
      up = rises lt laws ys (λ i j le less. sorted_far lt weak ys sorted i j 0 le less) single

      same : (z : ℕ) → count_by (λ j. lt j z) ys ≡ count_by (λ j. lt j z) all
      same z = sum_by-IsPermutation (λ j. cond (lt j z) 1 0) all ys moves

      stands : (q : ℕ) → q < length ys → count_by (λ j. lt j (get_or ys q 0)) all ≡ q
      stands q less =
          sym (same (get_or ys q 0))
          ∙ sym (get_or-map (λ z. before lt laws z ys) ys q 0 0 less)
          ∙ ap (λ l. get_or l q 0) (places lt laws ys up)
          ∙ (let e : 0 + q ≡ q = omega arith in get_number 0 q 0 ys less ∙ e)

      only : (p : ℕ) → All (λ i. (count_by (λ j. lt j i) all == p) ≡ true → i ≡ get_or ys p 0) ys
      only p k d less holds =
          let here : get_or ys k d ≡ get_or ys k 0 = get_or_default ys k d 0 less in
          let at : count_by (λ j. lt j (get_or ys k d)) all ≡ k = ap (λ i. count_by (λ j. lt j i) all) here ∙ stands k less in
          let is : k ≡ p = sym at ∙ eqb-true (count_by (λ j. lt j (get_or ys k d)) all) p holds in
          here ∙ ap (λ q. get_or ys q 0) is

      found : (q : ℕ) → q < length ys → turn (0 + q) ≡ get_or ys q 0
      found q less =
          let e : 0 + q ≡ q = omega arith in
          ap turn e
          ∙ first_is (λ i. count_by (λ j. lt j i) all == q) (get_or ys q 0) all
          (list_any-IsPermutation (λ i. count_by (λ j. lt j i) all == q) all ys moves
          ∙ any_at (λ i. count_by (λ j. lt j i) all == q) ys q less (eq-eqb (count_by (λ j. lt j (get_or ys q 0)) all) q (stands q less)))
          (All-permutation (λ i. (count_by (λ j. lt j i) all == q) ≡ true → i ≡ get_or ys q 0) ys all (IsPermutation-sym all ys moves) (only q))
