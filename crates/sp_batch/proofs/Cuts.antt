-- Fronts of bytes, and what stands behind them.
use Rattle.std.proofs.Common.{◌≡◌, ◌<◌, ◌+◌, ℕ, zero, suc, Bool, true, false, List, [], ◌∷◌, ◌++◌, length, take, drop, Option, None, Some, MatchOption, Bor, refl, ap, sym, ◌∙◌, arith, slice_index, inl, inr}
use Rattle.std.specs.Prelude.{◌==◌, not, nat_eq}
use Rattle.std.specs.List.{list_all}
use Rattle.std.specs.Cmp.Lexicographic.{pointwise}
use Rattle.std.specs.Str.{IsAscii, IsUtf8}
use Rattle.std.proofs.lemmas.Bool.{cases_Bool, cond_both, cond-true, cond-false, eqb-true, ltb-true, and_parts, and_from, not-true, false_from_ne_true, both_ways, ne_eqb, not_from_false}
use Rattle.std.proofs.lemmas.Str.{IsUtf8-from_ascii}
use Rattle.sp_batch.specs.Grammar.{is_visible, is_name, front}
use Rattle.sp_batch.specs.Reading.{past, behind, name}

-- no byte of w is c
abbrev pub lacks : ℕ → List ℕ → Bool
lacks c w = list_all (λ x. not (x == c)) w

behind_not : (p s : List ℕ) → pointwise nat_eq (take (length p) s) p ≡ false → behind p s ≡ None
behind_not [] s e = absurd (both_ways _ e refl)
behind_not (p ∷ ps) [] e = refl
behind_not (p ∷ ps) (x ∷ xs) e =
    let P : Option (List ℕ) → Type 0 = λ o. o ≡ None in
    cond_both (x == p) (behind ps xs) None P (λ same. behind_not ps xs (rw same at e)) (λ _. refl)

behind_is : (p s : List ℕ) → pointwise nat_eq (take (length p) s) p ≡ true → behind p s ≡ Some (drop (length p) s)
behind_is [] s e = refl
behind_is (p ∷ ps) [] e = absurd (both_ways _ refl e)
behind_is (p ∷ ps) (x ∷ xs) e =
    let parts = and_parts (x == p) (pointwise nat_eq (take (length ps) xs) ps) e in
    cond-true (x == p) (behind ps xs) None parts.0 ∙ behind_is ps xs parts.1

pub behind_of : (p s : List ℕ) (r : Option (Bor (List ℕ)))
    → MatchOption r (pointwise nat_eq (take (length p) s) p ≡ false) (λ x. (pointwise nat_eq (take (length p) s) p ≡ true) × (x.now ≡ drop (length p) s) × (length x.now + length p ≡ length s))
    → MatchOption r (behind p s ≡ None) (λ x. behind p s ≡ Some x.now)
behind_of p s None h = behind_not p s h
behind_of p s (Some x) h = behind_is p s h.0 ∙ ap Some (sym h.1)

-- what stands behind a front, with the front before it
pub behind_whole : (p s rest : List ℕ) → behind p s ≡ Some rest → s ≡ p ++ rest
behind_whole [] s rest e = cc
behind_whole (p ∷ ps) [] rest e = absurd (cc)
behind_whole (p ∷ ps) (x ∷ xs) rest e =
    elim (cases_Bool (x == p)) [
      | inl same ↦
          ap (λ y. y ∷ xs) (eqb-true x p same)
          ∙ ap (λ ys. p ∷ ys) (behind_whole ps xs rest (sym (cond-true (x == p) (behind ps xs) None same) ∙ e))
      | inr other ↦ absurd (let no : None ≡ Some rest = sym (cond-false (x == p) (behind ps xs) None other) ∙ e in cc)
    ]

pub behind_front : (p rest : List ℕ) → behind p (p ++ rest) ≡ Some rest
behind_front [] rest = refl
behind_front (p ∷ ps) rest =
    let same : (p == p) ≡ true = grind arith in
    cond-true (p == p) (behind ps (ps ++ rest)) None same ∙ behind_front ps rest

-- a byte is found
pub cut_at : (c : ℕ) (s : List ℕ) (k : ℕ) → k < length s → (slice_index s k == c) ≡ true → ((j : ℕ) → j < k → (slice_index s j == c) ≡ true → ⊥)
    → (front c s ≡ take k s) × (past c s ≡ Some (drop (k + 1) s))
cut_at c [] k lt is before = absurd (omega arith)
cut_at c (x ∷ xs) zero lt is before = (cond-true (x == c) [] (x ∷ front c xs) is, cond-true (x == c) (Some xs) (past c xs) is)
cut_at c (x ∷ xs) (suc k) lt is before =
    let other : (x == c) ≡ false = false_from_ne_true (x == c) (before 0 (omega arith)) in
    let rest = cut_at c xs k (omega arith) is (λ j lower. before (suc j) (omega arith)) in
    let one : suc k + 1 ≡ suc (k + 1) = omega arith in (
      cond-false (x == c) [] (x ∷ front c xs) other ∙ ap (λ ys. x ∷ ys) rest.0,
      cond-false (x == c) (Some xs) (past c xs) other ∙ rest.1 ∙ ap (λ n. Some (drop n (x ∷ xs))) (sym one),
    )

pub cut_nowhere : (c : ℕ) (s : List ℕ) → ((j : ℕ) → j < length s → (slice_index s j == c) ≡ true → ⊥) → (front c s ≡ s) × (past c s ≡ None)
cut_nowhere c [] none = (refl, refl)
cut_nowhere c (x ∷ xs) none =
    let other : (x == c) ≡ false = false_from_ne_true (x == c) (none 0 (omega arith)) in
    let rest = cut_nowhere c xs (λ j lower. none (suc j) (omega arith)) in
    (cond-false (x == c) [] (x ∷ front c xs) other ∙ ap (λ ys. x ∷ ys) rest.0, cond-false (x == c) (Some xs) (past c xs) other ∙ rest.1)

-- bytes without c, before c and what follows
pub cut_before : (c : ℕ) (w rest : List ℕ) → lacks c w ≡ true → (front c (w ++ c ∷ rest) ≡ w) × (past c (w ++ c ∷ rest) ≡ Some rest)
cut_before c [] rest e =
    let same : (c == c) ≡ true = grind arith in
    (cond-true (c == c) [] (c ∷ front c rest) same, cond-true (c == c) (Some rest) (past c rest) same)
cut_before c (x ∷ xs) rest e =
    let parts = and_parts (not (x == c)) (lacks c xs) e in
    let other : (x == c) ≡ false = not-true (x == c) parts.0 in
    let later = cut_before c xs rest parts.1 in (
      cond-false (x == c) [] (x ∷ front c (xs ++ c ∷ rest)) other ∙ ap (λ ys. x ∷ ys) later.0,
      cond-false (x == c) (Some (xs ++ c ∷ rest)) (past c (xs ++ c ∷ rest)) other ∙ later.1,
    )

pub cut_alone : (c : ℕ) (w : List ℕ) → lacks c w ≡ true → (front c w ≡ w) × (past c w ≡ None)
cut_alone c [] e = (refl, refl)
cut_alone c (x ∷ xs) e =
    let parts = and_parts (not (x == c)) (lacks c xs) e in
    let other : (x == c) ≡ false = not-true (x == c) parts.0 in
    let later = cut_alone c xs parts.1 in
    (cond-false (x == c) [] (x ∷ front c xs) other ∙ ap (λ ys. x ∷ ys) later.0, cond-false (x == c) (Some xs) (past c xs) other ∙ later.1)

-- the parts of a cut, together
pub cut_whole : (c : ℕ) (s rest : List ℕ) → past c s ≡ Some rest → s ≡ front c s ++ c ∷ rest
cut_whole c [] rest e = absurd (cc)
cut_whole c (x ∷ xs) rest e =
    elim (cases_Bool (x == c)) [
      | inl same ↦
          let is : x ≡ c = eqb-true x c same in
          let tail : xs ≡ rest = (let f : Some xs ≡ Some rest = sym (cond-true (x == c) (Some xs) (past c xs) same) ∙ e in cc) in
          rw (cond-true (x == c) [] (x ∷ front c xs) same, is, tail) refl
      | inr other ↦
          rw (cond-false (x == c) [] (x ∷ front c xs) other)
          (ap (λ ys. x ∷ ys) (cut_whole c xs rest (sym (cond-false (x == c) (Some xs) (past c xs) other) ∙ e)))
    ]

pub cut_all : (c : ℕ) (s : List ℕ) → past c s ≡ None → front c s ≡ s
cut_all c [] e = refl
cut_all c (x ∷ xs) e =
    elim (cases_Bool (x == c)) [
      | inl same ↦ absurd (let no : Some xs ≡ None = sym (cond-true (x == c) (Some xs) (past c xs) same) ∙ e in cc)
      | inr other ↦
          cond-false (x == c) [] (x ∷ front c xs) other
          ∙ ap (λ ys. x ∷ ys) (cut_all c xs (sym (cond-false (x == c) (Some xs) (past c xs) other) ∙ e))
    ]

visible_lacks : (c : ℕ) (w : List ℕ) → (is_visible c ≡ false) → list_all is_visible w ≡ true → lacks c w ≡ true
visible_lacks c [] hidden e = refl
visible_lacks c (x ∷ xs) hidden e =
    let parts = and_parts (is_visible x) (list_all is_visible xs) e in
    let other : (x == c) ≡ false = ne_eqb x c (λ same. both_ways (is_visible c) hidden (rw same at parts.0)) in
    and_from (not (x == c)) (lacks c xs) (not_from_false (x == c) other) (visible_lacks c xs hidden parts.1)

-- a name has no space and no LF
pub name_lacks : (c : ℕ) (w : List ℕ) → is_visible c ≡ false → is_name w ≡ true → lacks c w ≡ true
name_lacks c w hidden e = visible_lacks c w hidden (and_parts _ (list_all is_visible w) e).1

visible_ascii : (w : List ℕ) → list_all is_visible w ≡ true → IsAscii w
visible_ascii [] e i = omega arith
visible_ascii (x ∷ xs) e zero =
    let parts = and_parts (is_visible x) (list_all is_visible xs) e in
    let low = ltb-true x 127 (and_parts _ _ parts.0).1 in
    omega arith
visible_ascii (x ∷ xs) e (suc i) = visible_ascii xs (and_parts (is_visible x) (list_all is_visible xs) e).1 i

pub name_utf8 : (w : List ℕ) → is_name w ≡ true → IsUtf8 w
name_utf8 w e = IsUtf8-from_ascii w (visible_ascii w (and_parts _ (list_all is_visible w) e).1)

pub name_of : (w : List ℕ) → is_name w ≡ true → name w ≡ Some w
name_of w e = cond-true (is_name w) (Some w) None e

pub name_sound : (w v : List ℕ) → name w ≡ Some v → (is_name v ≡ true) × (w ≡ v)
name_sound w v e =
    elim (cases_Bool (is_name w)) [
      | inl has ↦
          let same : w ≡ v = (let f : Some w ≡ Some v = sym (cond-true (is_name w) (Some w) None has) ∙ e in cc) in
          (rw (← same) has, same)
      | inr lacking ↦ absurd (let f : None ≡ Some v = sym (cond-false (is_name w) (Some w) None lacking) ∙ e in cc)
    ]
