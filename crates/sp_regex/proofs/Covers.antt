-- Which bytes ranges cover.
use Rattle.std.proofs.Common.{◌≡◌, ℕ, zero, suc, ◌+◌, ◌<◌, Bool, true, false, ◌&&◌, ◌||◌, List, [], ◌∷◌, ◌++◌, nat_le, nat_lt, refl, sym, ap, ◌∙◌, inl, inr, arith}
use Rattle.std.proofs.lemmas.List.Folds.{list_any-append}
use Rattle.std.proofs.lemmas.Bool.{or_cases, or_left, or_right, cases_eq, both_ways, false_from_ne_true}
use Rattle.std.proofs.lemmas.Bool.Decides.{nat_tests}
use Rattle.sp_regex.specs.declared.bytes.ByteRange.{ByteRange}
use Rattle.sp_regex.specs.Bytes.{is_within, is_covered}
use Rattle.sp_regex.specs.Room.{some_below}

-- a test that holds of some number below n holds
pub some_below-found : (n : ℕ) (p : ℕ → Bool) (x : ℕ) → x < n → p x ≡ true → some_below n p ≡ true
unfolding some_below
some_below-found zero p x lt h = absurd (omega arith)
some_below-found (suc n) p x lt h = elim (cases_eq x n) [
  | inl e ↦ or_left (p n) (some_below n p) (ap p (sym e) ∙ h)
  | inr ne ↦ or_right (p n) (some_below n p) (some_below-found n p x (omega arith) h)
]

pub some_below-witness : (n : ℕ) (p : ℕ → Bool) → some_below n p ≡ true → (x : ℕ) × (x < n) × (p x ≡ true)
unfolding some_below
some_below-witness zero p h = cc
some_below-witness (suc n) p h = elim (or_cases (p n) (some_below n p) h) [
  | inl e ↦ (n, omega arith, e)
  | inr e ↦ (let w = some_below-witness n p e in (w.0, omega arith, w.2))
]

pub some_below-none : (n : ℕ) (p : ℕ → Bool) → ((x : ℕ) → x < n → p x ≡ false) → some_below n p ≡ false
some_below-none n p none = false_from_ne_true (some_below n p) (λ h. let w = some_below-witness n p h in both_ways (p w.0) (none w.0 w.1) w.2)

pub some_below-same : (n : ℕ) (p q : ℕ → Bool) → ((x : ℕ) → x < n → p x ≡ q x) → some_below n p ≡ some_below n q
unfolding some_below
some_below-same zero p q same = refl
some_below-same (suc n) p q same =
    let e : p n ≡ q n = same n (omega arith) in
    let f : some_below n p ≡ some_below n q = some_below-same n p q (λ x lt. same x (omega arith)) in
    ap (λ b. b || some_below n p) e ∙ ap (λ b. q n || b) f

or-false : (b : Bool) → (b || false) ≡ b
or-false true = refl
or-false false = refl

-- a further range covers its bytes
pub is_covered-push : (rs : List ByteRange) (r : ByteRange) (k : ℕ) → is_covered (rs ++ r ∷ []) k ≡ (is_covered rs k || is_within k r)
is_covered-push rs r k = list_any-append (is_within k) rs (r ∷ []) ∙ ap (λ b. is_covered rs k || b) (or-false (is_within k r))

pub within_end : (r : ByteRange) (k b : ℕ) → b ≡ r.to + 1 → (nat_le r.from k && nat_lt k b) ≡ is_within k r
within_end r k b e = grind (arith, nat_tests)
