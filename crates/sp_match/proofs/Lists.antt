-- Sets of spots as lists.
use Rattle.std.proofs.Common.{◌≡◌, ℕ, zero, suc, ◌+◌, ◌<◌, ◌≤◌, ◌++◌, ◌==◌, ◌&&◌, ◌||◌, not, Bool, true, false, List, [], ◌∷◌, length, take, get_or, refl, ap, sym, ◌∙◌, inl, inr, arith, eqb-true, eq-eqb}
use Rattle.std.proofs.lemmas.List.{take_more, take_all}
use Rattle.sp_match.specs.Sets.{has}
use Rattle.sp_match.proofs.Compiling.{left_true, right_true, true_or_false, only}

or_assoc : (x y z : Bool) → (x || (y || z)) ≡ ((x || y) || z)
or_assoc true y z = refl
or_assoc false y z = refl

pub or_swap : (x y : Bool) → (x || y) ≡ (y || x)
or_swap true true = refl
or_swap true false = refl
or_swap false true = refl
or_swap false false = refl

or_same : (x y : Bool) → y ≡ false → x ≡ (x || y)
or_same true y e = refl
or_same false y e = sym e

no_and : (x y : Bool) → (x ≡ true → y ≡ false) → (x && y) ≡ false
no_and true y h = h refl
no_and false y h = refl

and_all : (x y : Bool) → (x ≡ true → y ≡ true) → x ≡ (x && y)
and_all true y h = sym (h refl)
and_all false y h = refl

and_or : (x y z : Bool) → ((x && z) || (y && z)) ≡ ((x || y) && z)
and_or true true true = refl
and_or true true false = refl
and_or true false true = refl
and_or true false false = refl
and_or false y z = refl

not_equal : (p i : ℕ) → (p ≡ i → ⊥) → (p == i) ≡ false
not_equal p i differ = elim (true_or_false (p == i)) [ inl e ↦ absurd (differ (eqb-true p i e)) | inr e ↦ e ]

has_append : (xs ys : List ℕ) (p : ℕ) → has (xs ++ ys) p ≡ (has xs p || has ys p)
has_append [] ys p = refl
has_append (x ∷ xs) ys p = ap (λ z. (p == x) || z) (has_append xs ys p) ∙ or_assoc (p == x) (has xs p) (has ys p)

has_more : (xs : List ℕ) (i p : ℕ) → i < length xs → has (take (i + 1) xs) p ≡ (has (take i xs) p || (p == get_or xs i 0))
has_more xs i p lt = ap (λ z. has z p) (take_more xs i 0 lt) ∙ has_append (take i xs) (get_or xs i 0 ∷ []) p ∙ ap (λ z. has (take i xs) p || z) (only (get_or xs i 0) p)

pub has_at : (xs : List ℕ) (i p : ℕ) → i < length xs → get_or xs i 0 ≡ p → has xs p ≡ true
has_at [] i p lt e = absurd (omega arith)
has_at (x ∷ xs) zero p lt e = left_true (p == x) (has xs p) (eq-eqb p x (sym e))
has_at (x ∷ xs) (suc i) p lt e = right_true (p == x) (has xs p) (has_at xs i p (omega arith) e)

pub has_first : (xs : List ℕ) → 0 < length xs → (p : ℕ) × (has xs p ≡ true)
has_first xs lt = (get_or xs 0 0, has_at xs 0 (get_or xs 0 0) lt refl)

pub no_items : (xs : List ℕ) → length xs ≡ 0 → xs ≡ []
no_items [] e = refl
no_items (x ∷ xs) e = absurd (omega arith)

pub missed : (xs : List ℕ) (i p : ℕ) → i < length xs → (get_or xs i 0 ≡ p → ⊥) → has (take i xs) p ≡ false → has (take (i + 1) xs) p ≡ false
missed xs i p lt differ before = has_more xs i p lt ∙ ap (λ z. z || (p == get_or xs i 0)) before ∙ not_equal p (get_or xs i 0) (λ e. differ (sym e))

pub has_all : (xs : List ℕ) (i p : ℕ) → length xs ≤ i → has (take i xs) p ≡ has xs p
has_all xs i p le = ap (λ z. has z p) (take_all _ _ le)

pub had_already : (xs : List ℕ) (s p : ℕ) → has xs s ≡ true → has xs p ≡ (has xs p || (p == s))
had_already xs s p h = elim (true_or_false (p == s)) [
  | inl e ↦ (let is : has xs p ≡ true = ap (has xs) (eqb-true p s e) ∙ h in is ∙ sym (left_true (has xs p) (p == s) is))
  | inr e ↦ or_same (has xs p) (p == s) e
]

pub pushed : (xs : List ℕ) (s p : ℕ) → has (xs ++ s ∷ []) p ≡ (has xs p || (p == s))
pushed xs s p = has_append xs (s ∷ []) p ∙ ap (λ z. has xs p || z) (only s p)

pub joined_more : (old mid new : Bool) (xs : List ℕ) (i p : ℕ) → i < length xs → mid ≡ (old || has (take i xs) p) → new ≡ (mid || (p == get_or xs i 0)) → new ≡ (old || has (take (i + 1) xs) p)
joined_more old mid new xs i p lt e f = f ∙ ap (λ z. z || (p == get_or xs i 0)) e ∙ sym (or_assoc old (has (take i xs) p) (p == get_or xs i 0)) ∙ ap (λ z. old || z) (sym (has_more xs i p lt))

pub others_more : (old mid new keep : Bool) (xs : List ℕ) (i p : ℕ) → i < length xs → mid ≡ (old || (has (take i xs) p && keep)) → new ≡ (mid || ((p == get_or xs i 0) && keep)) → new ≡ (old || (has (take (i + 1) xs) p && keep))
others_more old mid new keep xs i p lt e f =
    f ∙ ap (λ z. z || ((p == get_or xs i 0) && keep)) e ∙ sym (or_assoc old (has (take i xs) p && keep) ((p == get_or xs i 0) && keep))
    ∙ ap (λ z. old || z) (and_or (has (take i xs) p) (p == get_or xs i 0) keep ∙ ap (λ z. z && keep) (sym (has_more xs i p lt)))

pub put_kept : (old : Bool) (s but p : ℕ) → (s ≡ but → ⊥) → (old || (p == s)) ≡ (old || ((p == s) && not (p == but)))
put_kept old s but p differ = ap (λ z. old || z) (and_all (p == s) (not (p == but)) (λ e. ap not (not_equal p but (λ f. differ (sym (eqb-true p s e) ∙ f)))))

pub put_left : (old : Bool) (s but p : ℕ) → s ≡ but → old ≡ (old || ((p == s) && not (p == but)))
put_left old s but p same = or_same old ((p == s) && not (p == but)) (no_and (p == s) (not (p == but)) (λ e. ap not (eq-eqb p but (eqb-true p s e ∙ same))))
