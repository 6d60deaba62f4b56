-- Sets of spots by bits, from the facts on their words.
use Rattle.std.proofs.Common.{◌≡◌, ◌≢◌, ℕ, zero, suc, ◌+◌, ◌*◌, ◌/◌, ◌%◌, ◌<◌, ◌≤◌, ◌==◌, ◌||◌, ◌&&◌, Bool, true, false, List, length, get_or, refl, ap, sym, ◌∙◌, arith, max, min}
use Rattle.std.proofs.lemmas.List.{get_or_past}
use Rattle.std.specs.Int.{bit_at}
use Rattle.std.specs.Int.RustNames.{bit_or}
use lib.Bits.{bit_and}
use Rattle.std.proofs.lemmas.Nat.Bits.{bit_at_or, bit_at_and, bit_at-zero, bit_at-lt}
use Rattle.std.proofs.lemmas.Nat.Bits.{bit_at-trailing_zeros, bit_at_clear_same}
use Rattle.std.proofs.lemmas.Nat.{and_le_l}
use Rattle.std.specs.Int.{trailing_zeros, w64, bit_not}
use mir.Val.{bits}
use Rattle.std.proofs.Common.{eqb-true, eq-eqb, ◌^◌, inl, inr}
use Rattle.sp_match.specs.Bits.{holds}
use Rattle.sp_match.proofs.Compiling.{order, before_or_not, not_both, true_or_false, right_true}

is_zero : (set : List ℕ) → ((i : ℕ) → i < length set → get_or set i 0 ≡ 0) → (k : ℕ) → get_or set k 0 ≡ 0
is_zero set z k = elim (before_or_not k (length set)) [ inl lt ↦ z k lt | inr ge ↦ get_or_past set k 0 ge ]

-- a set whose words are all 0
pub none_held : (set : List ℕ) → ((i : ℕ) → i < length set → get_or set i 0 ≡ 0) → (p : ℕ) → holds set p ≡ false
none_held set z p = ap (λ x. x == 1) (ap (λ x. bit_at x (p % 64)) (is_zero set z (p / 64)) ∙ bit_at-zero (p % 64))

max_is_one : (a b : ℕ) → a < 2 → b < 2 → (max a b == 1) ≡ ((a == 1) || (b == 1))
max_is_one zero zero la lb = refl
max_is_one zero (suc zero) la lb = refl
max_is_one zero (suc (suc b)) la lb = absurd (omega arith)
max_is_one (suc zero) zero la lb = refl
max_is_one (suc zero) (suc zero) la lb = refl
max_is_one (suc zero) (suc (suc b)) la lb = absurd (omega arith)
max_is_one (suc (suc a)) b la lb = absurd (omega arith)

-- a set whose words are those of two sets together
pub merged : (old more new : List ℕ) → ((k : ℕ) → get_or new k 0 ≡ bit_or (get_or old k 0) (get_or more k 0)) → (p : ℕ) → holds new p ≡ (holds old p || holds more p)
merged old more new words p =
    let x = get_or old (p / 64) 0 in let y = get_or more (p / 64) 0 in let i = p % 64 in
    ap (λ z. z == 1) (ap (λ z. bit_at z i) (words (p / 64)) ∙ bit_at_or x y i) ∙ max_is_one (bit_at x i) (bit_at y i) (bit_at-lt x i) (bit_at-lt y i)

pub min_is_one : (a b : ℕ) → min a b ≡ 1 → a < 2 → b < 2 → (a ≡ 1) × (b ≡ 1)
min_is_one a b e la lb = (omega arith, omega arith)

pub is_one : (a : ℕ) → a ≡ 1 → (a == 1) ≡ true
is_one a e = ap (λ z. z == 1) e

-- a word of two sets that have a bit in common
pub met : (set other : List ℕ) (i : ℕ) → get_or set i 0 < 2 ^ 64 → 0 < bit_and (get_or set i 0) (get_or other i 0) → (p : ℕ) × (holds set p ≡ true) × (holds other p ≡ true)
met set other i small some =
    let n = bit_and (get_or set i 0) (get_or other i 0) in
    let less : n ≤ get_or set i 0 = and_le_l (get_or set i 0) (get_or other i 0) in
    let t = bit_at-trailing_zeros w64 n some (omega arith) in
    let z = trailing_zeros w64 n in
    let lt : z < 64 = t.0 in
    let two = min_is_one (bit_at (get_or set i 0) z) (bit_at (get_or other i 0) z) (sym (bit_at_and (get_or set i 0) (get_or other i 0) z) ∙ t.1) (bit_at-lt (get_or set i 0) z) (bit_at-lt (get_or other i 0) z) in
    let word : (i * 64 + z) / 64 ≡ i = omega arith in
    let place : (i * 64 + z) % 64 ≡ z = omega arith in (
      i * 64 + z,
      rw (word, place) (is_one (bit_at (get_or set i 0) z) two.0),
      rw (word, place) (is_one (bit_at (get_or other i 0) z) two.1),
    )

pub one_is : (a : ℕ) → (a == 1) ≡ true → a ≡ 1
one_is a e = eqb-true a 1 e

one_not : (a b : ℕ) → min a b ≡ 0 → a ≡ 1 → (b == 1) ≡ false
one_not a zero m e = refl
one_not a (suc b) m e = absurd (omega arith)

-- two sets that have nothing in common in one word
pub apart_word : (set other : List ℕ) (word p : ℕ) → bit_and (get_or set word 0) (get_or other word 0) ≡ 0 → p / 64 ≡ word → holds set p ≡ true → holds other p ≡ false
apart_word set other word p none is h =
    let e : bit_and (get_or set (p / 64) 0) (get_or other (p / 64) 0) ≡ 0 = ap (λ z. bit_and (get_or set z 0) (get_or other z 0)) is ∙ none in
    let x = get_or set (p / 64) 0 in let y = get_or other (p / 64) 0 in let i = p % 64 in
    one_not (bit_at x i) (bit_at y i) (sym (bit_at_and x y i) ∙ ap (λ z. bit_at z i) e ∙ bit_at-zero i) (one_is (bit_at x i) h)

-- two sets whose words have nothing in common
pub apart : (set other : List ℕ) → ((i : ℕ) → bit_and (get_or set i 0) (get_or other i 0) ≡ 0) → (p : ℕ) → holds set p ≡ true → holds other p ≡ false
apart set other none p h = apart_word set other (p / 64) p (none (p / 64)) refl h

pub apart_within : (set other : List ℕ) → ((i : ℕ) → i < length set → bit_and (get_or set i 0) (get_or other i 0) ≡ 0) → (p : ℕ) → holds set p ≡ true → holds other p ≡ false
apart_within set other none p h = apart set other (λ i. elim (before_or_not i (length set)) [
  | inl lt ↦ none i lt
  | inr ge ↦ ap (λ z. bit_and z (get_or other i 0)) (get_or_past set i 0 ge)
]) p h

pub merged_within : (old more new : List ℕ) → length new ≡ length old → length more ≤ length old → ((k : ℕ) → k < length old → get_or new k 0 ≡ bit_or (get_or old k 0) (get_or more k 0)) → (p : ℕ) → holds new p ≡ (holds old p || holds more p)
merged_within old more new long short words p = merged old more new (λ k. elim (before_or_not k (length old)) [
  | inl lt ↦ words k lt
  | inr ge ↦ get_or_past new k 0 (omega arith) ∙ sym (ap (λ z. bit_or z (get_or more k 0)) (get_or_past old k 0 ge) ∙ get_or_past more k 0 (omega arith))
]) p

-- the lowest bit of a word
pub low_bit : (n : ℕ) → 0 < n → n < 2 ^ 64 → bit_at n (trailing_zeros w64 n) ≡ 1
low_bit n some small = (bit_at-trailing_zeros w64 n some small).1

-- a word without one of its bits
pub cleared_less : (n k : ℕ) → k < 64 → bit_at n k ≡ 1 → bit_and n (bit_not w64 (1 * 2 ^ k % 2 ^ bits w64)) < n
cleared_less n k within one =
    let m = bit_and n (bit_not w64 (1 * 2 ^ k % 2 ^ bits w64)) in
    let le : m ≤ n = and_le_l n (bit_not w64 (1 * 2 ^ k % 2 ^ bits w64)) in
    elim (order m n) [
      | inl lt ↦ lt
      | inr ge ↦ elim ge [
        | inl e ↦ absurd (let z : bit_at m k ≡ 0 = bit_at_clear_same w64 n k within in let y : bit_at m k ≡ 1 = ap (λ x. bit_at x k) e ∙ one in omega arith)
        | inr gt ↦ absurd (omega arith)
      ]
    ]

or_false : (x y : Bool) → y ≡ false → x ≡ (x || y)
or_false true y e = refl
or_false false y e = sym e

same_place : (p s : ℕ) → p / 64 ≡ s / 64 → p % 64 ≡ s % 64 → p ≡ s
same_place p s a b = omega arith

put_other : (old new : List ℕ) (spot p : ℕ) → p ≢ spot → ((i : ℕ) → i ≢ spot % 64 → bit_at (get_or new (spot / 64) 0) i ≡ bit_at (get_or old (spot / 64) 0) i) → ((k : ℕ) → k ≢ spot / 64 → get_or new k 0 ≡ get_or old k 0) → holds new p ≡ holds old p
put_other old new spot p differ others words = elim (true_or_false (p / 64 == spot / 64)) [
  | inl e ↦ (let word = eqb-true (p / 64) (spot / 64) e in
      ap (λ z. z == 1) (ap (λ k. bit_at (get_or new k 0) (p % 64)) word ∙ others (p % 64) (λ place. differ (same_place p spot word place)) ∙ ap (λ k. bit_at (get_or old k 0) (p % 64)) (sym word)))
  | inr e ↦ ap (λ z. bit_at z (p % 64) == 1) (words (p / 64) (λ same. not_both (eq-eqb (p / 64) (spot / 64) same) e))
]

-- one word with a bit more
pub put_one : (old new : List ℕ) (spot : ℕ) → bit_at (get_or new (spot / 64) 0) (spot % 64) ≡ 1 → ((i : ℕ) → i ≢ spot % 64 → bit_at (get_or new (spot / 64) 0) i ≡ bit_at (get_or old (spot / 64) 0) i) → ((k : ℕ) → k ≢ spot / 64 → get_or new k 0 ≡ get_or old k 0) → (p : ℕ) → holds new p ≡ (holds old p || (p == spot))
put_one old new spot one others words p = elim (true_or_false (p == spot)) [
  | inl e ↦ (let is = eqb-true p spot e in
      ap (holds new) is ∙ is_one (bit_at (get_or new (spot / 64) 0) (spot % 64)) one ∙ sym (right_true (holds old p) (p == spot) e))
  | inr e ↦ (let differ : p ≢ spot = λ same. not_both (eq-eqb p spot same) e in
      put_other old new spot p differ others words ∙ or_false (holds old p) (p == spot) e)
]

and_false : (x y : Bool) → y ≡ false → (x && y) ≡ false
and_false true y e = e
and_false false y e = refl

and_true_right : (x y : Bool) → y ≡ true → (x && y) ≡ x
and_true_right true y e = e
and_true_right false y e = refl

not_equal : (p i : ℕ) → p ≢ i → (p == i) ≡ false
not_equal p i differ = elim (true_or_false (p == i)) [ inl e ↦ absurd (differ (eqb-true p i e)) | inr e ↦ e ]

-- A set that takes up one spot after another, where f tells which.
pub put_turn : (f old new : ℕ → Bool) (i : ℕ) (on : Bool) → on ≡ f i → ((p : ℕ) → new p ≡ (old p || (on && (p == i)))) → ((p : ℕ) → p < i → old p ≡ f p) → ((p : ℕ) → i ≤ p → old p ≡ false) → (p : ℕ) → p < i + 1 → new p ≡ f p
put_turn f old new i on is step done rest p lt = elim (order p i) [
  | inl less ↦ step p ∙ sym (or_false (old p) (on && (p == i)) (and_false on (p == i) (not_equal p i (omega arith)))) ∙ done p less
  | inr ge ↦ elim ge [
    | inl e ↦ step p ∙ ap (λ z. z || (on && (p == i))) (rest p (omega arith)) ∙ and_true_right on (p == i) (eq-eqb p i e) ∙ is ∙ ap f (sym e)
    | inr gt ↦ absurd (omega arith)
  ]
]

pub put_rest : (old new : ℕ → Bool) (i : ℕ) (on : Bool) → ((p : ℕ) → new p ≡ (old p || (on && (p == i)))) → ((p : ℕ) → i ≤ p → old p ≡ false) → (p : ℕ) → i + 1 ≤ p → new p ≡ false
put_rest old new i on step rest p le = step p ∙ sym (or_false (old p) (on && (p == i)) (and_false on (p == i) (not_equal p i (omega arith)))) ∙ rest p (omega arith)

-- a set of which one word has more bits
pub merged_word : (old new : List ℕ) (word spots : ℕ) → get_or new word 0 ≡ bit_or (get_or old word 0) spots → ((k : ℕ) → k ≢ word → get_or new k 0 ≡ get_or old k 0) → (p : ℕ) → holds new p ≡ (holds old p || ((p / 64 == word) && (bit_at spots (p % 64) == 1)))
merged_word old new word spots here others p = elim (true_or_false (p / 64 == word)) [
  | inl e ↦ (let is = eqb-true (p / 64) word e in let i = p % 64 in let x = get_or old word 0 in
      ap (λ z. bit_at (get_or new z 0) i == 1) is ∙ ap (λ z. bit_at z i == 1) here ∙ ap (λ z. z == 1) (bit_at_or x spots i) ∙ max_is_one (bit_at x i) (bit_at spots i) (bit_at-lt x i) (bit_at-lt spots i)
      ∙ ap (λ z. (bit_at (get_or old z 0) i == 1) || (bit_at spots i == 1)) (sym is) ∙ ap (λ z. holds old p || (z && (bit_at spots i == 1))) (sym e))
  | inr e ↦ ap (λ z. bit_at z (p % 64) == 1) (others (p / 64) (λ same. not_both (eq-eqb (p / 64) word same) e)) ∙ or_false (holds old p) ((p / 64 == word) && (bit_at spots (p % 64) == 1)) (ap (λ z. z && (bit_at spots (p % 64) == 1)) e)
]
