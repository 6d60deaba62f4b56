-- The parts around the first occurrence of a separator.
use Rattle.std.proofs.Common.{◌≡◌, ℕ, zero, suc, ◌+◌, ◌-◌, ◌<◌, Bool, true, false, cond, List, [], ◌∷◌, length, take, drop, None, Some, refl, ap, ◌∙◌, arith}
use Rattle.memchr.specs.Find.{OccursAt, FindsNeedle}
use Rattle.sp_operators.specs.Parts.{begins_with}
use Rattle.sp_operators.proofs.Parts.{farther, nearer, begins-OccursAt, OccursAt-begins}
use Rattle.sp_methods.specs.Separated.{before, behind, parts, with_first}
use Rattle.sp_methods.specs.Laws.{PartsAtTheFirst, PartsWithoutAny}

-- the bytes of an occurrence are passed over
pub parts_inside : (d : List ℕ) (i : ℕ) (bs : List ℕ) → parts d i bs ≡ parts d 0 (drop i bs)
parts_inside d zero bs = refl
parts_inside d (suc i) [] = refl
parts_inside d (suc i) (b ∷ bs) = parts_inside d i bs

module _ (d : List ℕ) (b : ℕ) (bs : List ℕ) where
  -- the separator begins here
  here : 0 < length d → begins_with (b ∷ bs) d ≡ true
      → (before d (b ∷ bs) ≡ []) × (behind d (b ∷ bs) ≡ drop (length d) (b ∷ bs)) × (parts d 0 (b ∷ bs) ≡ [] ∷ parts d 0 (drop (length d) (b ∷ bs)))
  here some e = (
    ap (λ t. cond t [] (b ∷ before d bs)) e,
    ap (λ t. cond t (drop (length d) (b ∷ bs)) (behind d bs)) e,
    ap (λ t. cond t ([] ∷ parts d (length d - 1) bs) (with_first b (parts d 0 bs))) e
        ∙ ap (λ ps. [] ∷ ps) (parts_inside d (length d - 1) bs ∙ ap (λ n. parts d 0 (drop n (b ∷ bs))) {x = suc (length d - 1)} {y = length d} (omega arith)),
  )

  -- it doesn't
  elsewhere : begins_with (b ∷ bs) d ≡ false
      → (before d (b ∷ bs) ≡ b ∷ before d bs) × (behind d (b ∷ bs) ≡ behind d bs) × (parts d 0 (b ∷ bs) ≡ with_first b (parts d 0 bs))
  elsewhere e = (
    ap (λ t. cond t [] (b ∷ before d bs)) e,
    ap (λ t. cond t (drop (length d) (b ∷ bs)) (behind d bs)) e,
    ap (λ t. cond t ([] ∷ parts d (length d - 1) bs) (with_first b (parts d 0 bs))) e,
  )

  -- what a search says of the first byte
  refused : (t : Bool) → begins_with (b ∷ bs) d ≡ t → ¬ (OccursAt (b ∷ bs) d 0) → begins_with (b ∷ bs) d ≡ false
  refused true e never_here = absurd (never_here (OccursAt-begins (b ∷ bs) d e))
  refused false e never_here = e

  later : (k : ℕ) → FindsNeedle (b ∷ bs) d 0 (Some (suc k)) → FindsNeedle bs d 0 (Some k)
  later k h = (
    record {
      low = omega arith;
      high = omega (arith, h.0.high);
      before = λ j low high at. h.0.before (suc j) (omega arith) (omega arith) (farther b bs d j at);
    },
    nearer b bs d k h.1,
  )

  never : FindsNeedle (b ∷ bs) d 0 None → FindsNeedle bs d 0 None
  never h = λ j low high at. h (suc j) (omega arith) (omega arith) (farther b bs d j at)

pub parts_at_the_first : PartsAtTheFirst
parts_at_the_first d [] k some h = absurd (let fits = h.1.fits in omega arith)
parts_at_the_first d (b ∷ bs) zero some h =
    let now = here d b bs some (begins-OccursAt (b ∷ bs) d h.1) in
    let same : drop (length d) (b ∷ bs) ≡ drop (0 + length d) (b ∷ bs) = ap (λ n. drop n (b ∷ bs)) {x = length d} {y = 0 + length d} (omega arith) in
    (now.0, now.1 ∙ same, now.2 ∙ ap (λ r. [] ∷ parts d 0 r) same)
parts_at_the_first d (b ∷ bs) (suc k) some h =
    let none = refused d b bs _ refl (λ at. h.0.before 0 (omega arith) (omega arith) at) in
    let now = elsewhere d b bs none in
    let rest = parts_at_the_first d bs k some (later d b bs k h) in
    let same : drop (k + length d) bs ≡ drop (suc k + length d) (b ∷ bs) = ap (λ n. drop n (b ∷ bs)) {x = suc (k + length d)} {y = suc k + length d} (omega arith) in (
      now.0 ∙ ap (λ p. b ∷ p) rest.0,
      now.1 ∙ rest.1 ∙ same,
      now.2 ∙ ap (with_first b) rest.2 ∙ ap (λ r. (b ∷ take k bs) ∷ parts d 0 r) same,
    )

pub parts_without_any : PartsWithoutAny
parts_without_any d [] some h = (refl, refl, refl)
parts_without_any d (b ∷ bs) some h =
    let none = refused d b bs _ refl (λ at. h 0 (omega arith) (omega arith) at) in
    let now = elsewhere d b bs none in
    let rest = parts_without_any d bs some (never d b bs h) in (
      now.0 ∙ ap (λ p. b ∷ p) rest.0,
      now.1 ∙ rest.1,
      now.2 ∙ ap (with_first b) rest.2,
    )
