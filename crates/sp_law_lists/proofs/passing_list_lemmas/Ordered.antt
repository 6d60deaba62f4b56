-- Each hook of a list has its turn among all.
use Rattle.std.specs.Prelude.{◌==◌, ◌||◌, ◌&&◌, if◌then◌else◌, map, filter}
use Rattle.std.proofs.Common.{ℕ, ℤ, ◌≡◌, ◌+◌, ◌≤◌, ◌<◌, Bool, true, false, cond, nat_lt, zero, suc, refl, sym, ap, ◌∙◌, arith, List, [], ◌∷◌, length, Option}
use Rattle.std.specs.List.{count_by}
use Rattle.std.specs.Cmp.{IsTotalOrder}
use Rattle.std.specs.Ordering.{is_lt, nat_cmp, int_cmp, ordering_then, ordering_reverse, on, flip_args}
use Rattle.std.specs.declared.cmp.Ordering.{Ordering}
use Rattle.std.specs.declared.cmp.Ordering.TheVariants.{Less, Equal, Greater}
use Rattle.std.proofs.lemmas.Bool.{eqb-true, eq-eqb}
use Rattle.std.proofs.lemmas.Cmp.{then_total, back_total, on_total, int_cmp_total, nat_cmp_total}
use Rattle.std.proofs.lemmas.List.Sums.{sum_by-cons, count_by-le-length}
use Rattle.sp_type_hook_order.specs.declared.keys.HookKey.{HookKey}
use Rattle.sp_type_hook_order.specs.Order.{numbers, order_by, runs_before, how_many_before, first_that, turn, rank_of, run_order}
use Rattle.sp_type_hook_order.specs.Keys.{hangs_on, key_at, parts_of, hooks_of}
use Rattle.sp_meaning_states.specs.Scopes.{is_among}
use Rattle.sp_law_lists.proofs.known_types_lemmas.Full.{never}

less_is : (o : Ordering) → is_lt o ≡ true → o ≡ Less
less_is Less e = refl
less_is Equal e = never e
less_is Greater e = never e

not_equal : {X : Type 0} (b : Bool) → cond b Less Greater ≡ Equal → X
not_equal true e = absurd (let z : Less ≡ Equal = e in cc)
not_equal false e = absurd (let z : Greater ≡ Equal = e in cc)

numbers_differ : {X : Type 0} (o : Ordering) (i j : ℕ) → (i == j) ≡ false → ordering_then o (nat_cmp i j) ≡ Equal → X
numbers_differ Less i j apart e = absurd (let z : Less ≡ Equal = e in cc)
numbers_differ Equal i j apart e = not_equal (nat_lt i j) (sym (ap (λ b. cond (nat_lt i j) Less (cond b Equal Greater)) apart) ∙ e)
numbers_differ Greater i j apart e = absurd (let z : Greater ≡ Equal = e in cc)

-- one more of which one count may take in more than the other
one_more : (a b : Bool) → (a ≡ true → b ≡ true) → (m n k l : ℕ) → k ≡ cond a 1 0 + m → l ≡ cond b 1 0 + n → m ≤ n → k ≤ l
one_more true true up m n k l e h le = (let s : k ≡ 1 + m = e in let t : l ≡ 1 + n = h in omega (arith, s, t, le))
one_more true false up m n k l e h le = never (up refl)
one_more false true up m n k l e h le = (let s : k ≡ 0 + m = e in let t : l ≡ 1 + n = h in omega (arith, s, t, le))
one_more false false up m n k l e h le = (let s : k ≡ 0 + m = e in let t : l ≡ 0 + n = h in omega (arith, s, t, le))

one_less : (a b : Bool) → (a ≡ true → b ≡ true) → (m n k l : ℕ) → k ≡ cond a 1 0 + m → l ≡ cond b 1 0 + n → m < n → k < l
one_less true true up m n k l e h lt = (let s : k ≡ 1 + m = e in let t : l ≡ 1 + n = h in omega (arith, s, t, lt))
one_less true false up m n k l e h lt = never (up refl)
one_less false true up m n k l e h lt = (let s : k ≡ 0 + m = e in let t : l ≡ 1 + n = h in omega (arith, s, t, lt))
one_less false false up m n k l e h lt = (let s : k ≡ 0 + m = e in let t : l ≡ 0 + n = h in omega (arith, s, t, lt))

-- one that isn't counted
fewer_counted : (p : ℕ → Bool) (h : ℕ) (xs : List ℕ) → is_among h xs ≡ true → p h ≡ false → count_by p xs < length xs
fewer_counted p h [] is out = never is
fewer_counted p h (x ∷ xs) is out = by (h == x) refl is (fewer_counted p h xs) (sum_by-cons (λ j. cond (p j) 1 0) x xs) (count_by-le-length p xs)
  where
    some : (b : Bool) (k : ℕ) → k ≡ cond b 1 0 + count_by p xs → count_by p xs < length xs → k < suc (length xs)
    some true k e lt = (let s : k ≡ 1 + count_by p xs = e in omega (arith, s, lt))
    some false k e lt = (let s : k ≡ 0 + count_by p xs = e in omega (arith, s, lt))

    by : (b : Bool) → (h == x) ≡ b → (b || is_among h xs) ≡ true → (is_among h xs ≡ true → p h ≡ false → count_by p xs < length xs) → count_by p (x ∷ xs) ≡ cond (p x) 1 0 + count_by p xs → count_by p xs ≤ length xs → count_by p (x ∷ xs) < suc (length xs)
    by true same is next split most =
        let here : p x ≡ false = ap p (sym (eqb-true h x same)) ∙ out in
        let left : count_by p (x ∷ xs) ≡ 0 + count_by p xs = split ∙ ap (λ b. cond b 1 0 + count_by p xs) here in
        omega (arith, left, most)
    by false same is next split most = some (p x) (count_by p (x ∷ xs)) split (next is out)

-- the numbers of a row
number_there : {X : Type 0} (k i : ℕ) (xs : List X) → i < length xs → is_among (k + i) (numbers k xs) ≡ true
number_there k i [] lt = absurd (let z : ⊥ = omega (arith, lt) in z)
number_there k zero (x ∷ xs) lt = ap (λ b. b || is_among (k + 0) (numbers (suc k) xs)) (let z : k + 0 ≡ k = omega arith in eq-eqb (k + 0) k z)
number_there k (suc i) (x ∷ xs) lt =
    let z : suc k + i ≡ k + suc i = omega arith in
    either (k + suc i == k) (sym (ap (λ j. is_among j (numbers (suc k) xs)) z) ∙ number_there (suc k) i xs (omega (arith, lt)))
  where
    either : (b : Bool) → is_among (k + suc i) (numbers (suc k) xs) ≡ true → (b || is_among (k + suc i) (numbers (suc k) xs)) ≡ true
    either true e = refl
    either false e = e

-- what a function makes of one of a row
among_made : (f : ℕ → ℕ) (k h : ℕ) (xs : List ℕ) → f k ≡ h → is_among k xs ≡ true → is_among h (map f xs) ≡ true
among_made f k h [] e is = never is
among_made f k h (x ∷ xs) e is = by (k == x) refl is (among_made f k h xs e)
  where
    either : (b : Bool) → is_among h (map f xs) ≡ true → (b || is_among h (map f xs)) ≡ true
    either true e = refl
    either false e = e

    by : (b : Bool) → (k == x) ≡ b → (b || is_among k xs) ≡ true → (is_among k xs ≡ true → is_among h (map f xs) ≡ true) → (h == f x || is_among h (map f xs)) ≡ true
    by true same is next = ap (λ b. b || is_among h (map f xs)) (eq-eqb h (f x) (sym e ∙ ap f (eqb-true k x same)))
    by false same is next = either (h == f x) (next is)

-- the first that passes is the only one
first_is : (p : ℕ → Bool) (h : ℕ) (xs : List ℕ) → is_among h xs ≡ true → p h ≡ true → ((i : ℕ) → is_among i xs ≡ true → p i ≡ true → i ≡ h) → first_that p xs ≡ h
first_is p h [] is passes only = never is
first_is p h (x ∷ xs) is passes only = by (p x) refl (h == x) refl is (λ later. first_is p h xs later passes (λ i there. only i (either (i == x) (is_among i xs) there)))
  where
    either : (a b : Bool) → b ≡ true → (a || b) ≡ true
    either true b e = refl
    either false b e = e

    by : (b : Bool) → p x ≡ b → (c : Bool) → (h == x) ≡ c → (c || is_among h xs) ≡ true → (is_among h xs ≡ true → first_that p xs ≡ h) → (if b then x else first_that p xs) ≡ h
    by true here c same is next = only x (ap (λ b. b || is_among x xs) (eq-eqb x x refl)) here
    by false here true same is next = never (sym here ∙ ap p (sym (eqb-true h x same)) ∙ passes)
    by false here false same is next = next is

module _ (rank : ℕ → ℤ) where
  total : IsTotalOrder (order_by rank)
  total = then_total {R = flip_args (on rank int_cmp)} {S = nat_cmp} (back_total (on_total rank int_cmp_total)) nat_cmp_total

  abbrev before : List ℕ → ℕ → ℕ
  before xs i = how_many_before rank xs i

  itself : (i : ℕ) → runs_before rank i i ≡ false
  itself i = by (order_by rank i i) (total.antisymm i i)
    where
      by : (o : Ordering) → o ≡ ordering_reverse o → is_lt o ≡ false
      by Less e = absurd (let z : Less ≡ Greater = e in cc)
      by Equal e = refl
      by Greater e = refl

  chained : (i j k : ℕ) → runs_before rank i j ≡ true → runs_before rank j k ≡ true → runs_before rank i k ≡ true
  chained i j k e h = ap is_lt (total.trans i j k (less_is (order_by rank i j) e) (less_is (order_by rank j k) h))

  -- of two one runs before the other
  one_runs : {X : Type 0} (i j : ℕ) → (i == j) ≡ false → (runs_before rank i j ≡ true → X) → (runs_before rank j i ≡ true → X) → X
  one_runs {X} i j apart left right = by (order_by rank i j) refl (total.antisymm j i)
    where
      by : (o : Ordering) → order_by rank i j ≡ o → order_by rank j i ≡ ordering_reverse (order_by rank i j) → X
      by Less e back = left (ap is_lt e)
      by Equal e back = numbers_differ (int_cmp (rank j) (rank i)) i j apart e
      by Greater e back = right (ap is_lt (back ∙ ap ordering_reverse e))

  split : (x i : ℕ) (xs : List ℕ) → before (x ∷ xs) i ≡ cond (runs_before rank x i) 1 0 + before xs i
  split x i xs = sum_by-cons (λ j. cond (runs_before rank j i) 1 0) x xs

  -- before the later of two run more
  as_many : (i j : ℕ) → runs_before rank i j ≡ true → (xs : List ℕ) → before xs i ≤ before xs j
  as_many i j e [] = (let z : 0 ≤ 0 = omega arith in z)
  as_many i j e (x ∷ xs) =
      one_more (runs_before rank x i) (runs_before rank x j) (λ h. chained x i j h e) (before xs i) (before xs j) (before (x ∷ xs) i) (before (x ∷ xs) j) (split x i xs) (split x j xs) (as_many i j e xs)

  fewer : (i j : ℕ) → runs_before rank i j ≡ true → (xs : List ℕ) → is_among i xs ≡ true → before xs i < before xs j
  fewer i j e [] is = never is
  fewer i j e (x ∷ xs) is = by (i == x) refl is (fewer i j e xs)
    where
      by : (b : Bool) → (i == x) ≡ b → (b || is_among i xs) ≡ true → (is_among i xs ≡ true → before xs i < before xs j) → before (x ∷ xs) i < before (x ∷ xs) j
      by true same is next =
          let s : i ≡ x = eqb-true i x same in
          let out : runs_before rank x i ≡ false = ap (λ k. runs_before rank k i) (sym s) ∙ itself i in
          let in_ : runs_before rank x j ≡ true = ap (λ k. runs_before rank k j) (sym s) ∙ e in
          let u : before (x ∷ xs) i ≡ 0 + before xs i = split x i xs ∙ ap (λ b. cond b 1 0 + before xs i) out in
          let w : before (x ∷ xs) j ≡ 1 + before xs j = split x j xs ∙ ap (λ b. cond b 1 0 + before xs j) in_ in
          let le : before xs i ≤ before xs j = as_many i j e xs in
          omega (arith, u, w, le)
      by false same is next =
          one_less (runs_before rank x i) (runs_before rank x j) (λ h. chained x i j h e) (before xs i) (before xs j) (before (x ∷ xs) i) (before (x ∷ xs) j) (split x i xs) (split x j xs) (next is)

  -- so each has a number of its own
  only_one : (xs : List ℕ) (i j : ℕ) → is_among i xs ≡ true → is_among j xs ≡ true → before xs i ≡ before xs j → i ≡ j
  only_one xs i j is there same = by (i == j) refl
    where
      by : (b : Bool) → (i == j) ≡ b → i ≡ j
      by true e = eqb-true i j e
      by false e =
          one_runs i j e (λ h. absurd (let lt = fewer i j h xs is in let z : ⊥ = omega (arith, lt, same) in z)) (λ h. absurd (let lt = fewer j i h xs there in let z : ⊥ = omega (arith, lt, same) in z))

  has_turn : (xs : List ℕ) (h : ℕ) → is_among h xs ≡ true → turn rank xs (before xs h) ≡ h
  has_turn xs h is =
      first_is (λ i. before xs i == before xs h) h xs is (eq-eqb (before xs h) (before xs h) refl) (λ i there e. only_one xs i h there is (eqb-true (before xs i) (before xs h) e))

length_numbers : {X : Type 0} (k : ℕ) (xs : List X) → length (numbers k xs) ≡ length xs
length_numbers k [] = refl
length_numbers k (x ∷ xs) = ap suc (length_numbers (suc k) xs)

-- each hook runs
pub has_place : (ranks : List ℤ) (h : ℕ) → h < length ranks → is_among h (run_order ranks) ≡ true
has_place ranks h lt =
    let all = numbers 0 ranks in
    let rank = rank_of ranks in
    let z : 0 + h ≡ h = omega arith in
    let is : is_among h all ≡ true = sym (ap (λ j. is_among j all) z) ∙ number_there 0 h ranks lt in
    let few : how_many_before rank all h < length all = fewer_counted (λ j. runs_before rank j h) h all is (itself rank h) in
    let many : length all ≡ length ranks = length_numbers 0 ranks in
    let low : how_many_before rank all h < length ranks = omega (arith, few, many) in
    let y : 0 + how_many_before rank all h ≡ how_many_before rank all h = omega arith in
    let there : is_among (how_many_before rank all h) all ≡ true = sym (ap (λ j. is_among j all) y) ∙ number_there 0 (how_many_before rank all h) ranks low in
    among_made (turn rank all) (how_many_before rank all h) h all (has_turn rank all h is) there

-- among those that pass
among_passing : (p : ℕ → Bool) (h : ℕ) (xs : List ℕ) → is_among h (filter p xs) ≡ (is_among h xs && p h)
among_passing p h [] = refl
among_passing p h (x ∷ xs) = by (p x) refl (h == x) refl (among_passing p h xs)
  where
    last : (a : Bool) → p h ≡ false → (a && p h) ≡ false
    last true e = e
    last false e = refl

    by : (b : Bool) → p x ≡ b → (c : Bool) → (h == x) ≡ c → is_among h (filter p xs) ≡ (is_among h xs && p h) → is_among h (if b then x ∷ filter p xs else filter p xs) ≡ ((c || is_among h xs) && p h)
    by true here true same next = ap (λ c. c || is_among h (filter p xs)) same ∙ sym (ap p (eqb-true h x same) ∙ here)
    by true here false same next = ap (λ c. c || is_among h (filter p xs)) same ∙ next
    by false here true same next =
        let out : p h ≡ false = ap p (eqb-true h x same) ∙ here in
        next ∙ last (is_among h xs) out ∙ sym out
    by false here false same next = next

-- A hook is among those that hang on something where it hangs on it.
pub hangs_there : (keys : List (Option HookKey)) (ranks : List ℤ) (key : HookKey) (h : ℕ) → h < length ranks → is_among h (hooks_of keys ranks key) ≡ hangs_on (parts_of key) (key_at keys h)
hangs_there keys ranks key h lt =
    among_passing (λ i. hangs_on (parts_of key) (key_at keys i)) h (run_order ranks) ∙ ap (λ b. b && hangs_on (parts_of key) (key_at keys h)) (has_place ranks h lt)
