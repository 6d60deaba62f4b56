-- A part is found exactly where it stands.
use Rattle.std.proofs.Common.{◌≡◌, ℕ, zero, suc, ◌+◌, ◌<◌, ◌⊎◌, inl, inr, Bool, true, false, List, [], ◌∷◌, length, Option, None, Some, refl, sym, ap, ◌∙◌, subst, eq-eqb, eqb-true, arith}
use Rattle.std.specs.Prelude.{slice_index, is_some, ◌&&◌, ◌||◌, ◌==◌}
use Rattle.memchr.specs.Find.{OccursAt, FindsNeedle}
use Rattle.sp_operators.specs.Parts.{begins_with, has_part}

both : (x y : Bool) → x && y ≡ true → (x ≡ true) × (y ≡ true)
both true true h = (refl, refl)
both true false h = absurd (let q : false ≡ true = h in cc)
both false y h = absurd (let q : false ≡ true = h in cc)

either : (x y : Bool) → x || y ≡ true → (x ≡ true) ⊎ (y ≡ true)
either true y h = inl refl
either false y h = inr h

or_right : (x y : Bool) → y ≡ true → x || y ≡ true
or_right true y h = refl
or_right false y h = h

-- one place farther in a list with one more in front
pub farther : (b : ℕ) (whole part : List ℕ) (k : ℕ) → OccursAt whole part k → OccursAt (b ∷ whole) part (suc k)
farther b whole part k h = record {
  fits = omega (arith, h.fits);
  reads = λ j low. subst (λ i. slice_index (b ∷ whole) i ≡ slice_index part j) {x = suc (k + j)} (omega arith) (h.reads j low);
}

pub nearer : (b : ℕ) (whole part : List ℕ) (k : ℕ) → OccursAt (b ∷ whole) part (suc k) → OccursAt whole part k
nearer b whole part k h = record {
  fits = omega (arith, h.fits);
  reads = λ j low. subst (λ i. slice_index (b ∷ whole) i ≡ slice_index part j) {y = suc (k + j)} (omega arith) (h.reads j low);
}

-- both lists without their first
behind_first : (b a : ℕ) (whole part : List ℕ) → OccursAt (b ∷ whole) (a ∷ part) zero → OccursAt whole part zero
behind_first b a whole part h = record {
  fits = omega (arith, h.fits);
  reads = λ j low.
      let e : slice_index (b ∷ whole) (suc (zero + j)) ≡ slice_index part j = subst (λ i. slice_index (b ∷ whole) i ≡ slice_index part j) {x = zero + suc j} {y = suc (zero + j)} (omega arith) (h.reads (suc j) (omega arith)) in
      e;
}

first_is : (b a : ℕ) (whole part : List ℕ) → OccursAt (b ∷ whole) (a ∷ part) zero → b ≡ a
first_is b a whole part h = h.reads zero (omega arith)

pub begins-OccursAt : (whole part : List ℕ) → OccursAt whole part zero → begins_with whole part ≡ true
begins-OccursAt [] [] h = refl
begins-OccursAt (b ∷ whole) [] h = refl
begins-OccursAt [] (a ∷ part) h = absurd (omega (arith, h.fits))
begins-OccursAt (b ∷ whole) (a ∷ part) h =
    ap (λ x. x && begins_with whole part) (eq-eqb b a (first_is b a whole part h))
    ∙ begins-OccursAt whole part (behind_first b a whole part h)

OccursAt-nil : (whole : List ℕ) → OccursAt whole [] zero
OccursAt-nil whole = record { fits = omega arith; reads = λ j low. absurd (omega arith) }

OccursAt-cons : (b a : ℕ) (whole part : List ℕ) → b ≡ a → OccursAt whole part zero → OccursAt (b ∷ whole) (a ∷ part) zero
OccursAt-cons b a whole part e h = record { fits = omega (arith, h.fits); reads = reads }
  where
    reads : (j : ℕ) → j < length (a ∷ part) → slice_index (b ∷ whole) (zero + j) ≡ slice_index (a ∷ part) j
    reads zero low = e
    reads (suc j) low = subst (λ i. slice_index (b ∷ whole) i ≡ slice_index part j) {x = suc (zero + j)} (omega arith) (h.reads j (omega arith))

pub OccursAt-begins : (whole part : List ℕ) → begins_with whole part ≡ true → OccursAt whole part zero
OccursAt-begins whole [] h = OccursAt-nil whole
OccursAt-begins [] (a ∷ part) h = absurd (let q : false ≡ true = h in cc)
OccursAt-begins (b ∷ whole) (a ∷ part) h =
    let parts = both (b == a) (begins_with whole part) h in
    OccursAt-cons b a whole part (eqb-true b a parts.0) (OccursAt-begins whole part parts.1)

has_part-OccursAt : (whole part : List ℕ) (k : ℕ) → OccursAt whole part k → has_part whole part ≡ true
has_part-OccursAt [] [] k h = refl
has_part-OccursAt [] (a ∷ part) k h = absurd (omega (arith, h.fits))
has_part-OccursAt (b ∷ whole) part zero h = ap (λ x. x || has_part whole part) (begins-OccursAt (b ∷ whole) part h)
has_part-OccursAt (b ∷ whole) part (suc k) h = or_right (begins_with (b ∷ whole) part) (has_part whole part) (has_part-OccursAt whole part k (nearer b whole part k h))

place_of_part : (whole part : List ℕ) → has_part whole part ≡ true → (k : ℕ) × (k < length whole + 1) × OccursAt whole part k
place_of_part [] part h = (zero, omega arith, OccursAt-begins [] part h)
place_of_part (b ∷ whole) part h = elim (either (begins_with (b ∷ whole) part) (has_part whole part) h) [
  | inl front ↦ (zero, omega arith, OccursAt-begins (b ∷ whole) part front)
  | inr rest ↦ let found = place_of_part whole part rest in (suc found.0, omega (arith, found.1), farther b whole part found.0 found.2)
]

module _ (whole part : List ℕ) where
  none : FindsNeedle whole part 0 None → (b : Bool) → has_part whole part ≡ b → false ≡ has_part whole part
  none h true e = let found = place_of_part whole part e in absurd (h found.0 (omega arith) found.1 found.2)
  none h false e = sym e

  pub has_part_from_find : (r : Option ℕ) → FindsNeedle whole part 0 r → is_some r ≡ has_part whole part
  has_part_from_find None h = none h (has_part whole part) refl
  has_part_from_find (Some k) h = sym (has_part-OccursAt whole part k h.1)
