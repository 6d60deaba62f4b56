-- What one more type tells of others.
use Rattle.std.proofs.Common.{ℕ, ◌≡◌, Bool, true, false, cond, nat_eq, refl, sym, ap, ◌∙◌, Option, Some, None}
use Rattle.std.specs.Prelude.{◌==◌, if◌then◌else◌, not, ◌&&◌, ◌||◌}
use Rattle.std.proofs.lemmas.Bool.{eqb-true}
use Rattle.sp_types.specs.Types.{Ty, is_known, same}
use Rattle.sp_types.proofs.Same.{same_is, same_itself}
use Rattle.sp_type_modules.specs.Taken.{differ}
use Rattle.sp_type_member_names.specs.declared.stored.Stored.{Stored}
use Rattle.sp_type_member_names.specs.declared.stored.Stored.TheVariants as stored_is
use Rattle.sp_type_member_names.specs.inside.Seen.{entry_differs, stored_with}

or_false : (b : Bool) → b ≡ (b || false)
or_false true = refl
or_false false = refl

or_itself : (b : Bool) → b ≡ (b || b)
or_itself true = refl
or_itself false = refl

unknown_tells : (s t : Ty) → is_known s ≡ false → differ s t ≡ false
unknown_tells s t e = ap (λ b. b && (is_known t && not (same s t))) e

known_or : (a b c : Bool) → a ≡ (a || (b && (a && c)))
known_or true b c = refl
known_or false true c = refl
known_or false false c = refl

-- of two types that differ each other known type differs from one
apart : (s u t : Ty) → is_known s ≡ true → is_known u ≡ true → same s u ≡ false → is_known t ≡ (differ s t || differ u t)
apart s u t ks ku apart_is =
    by (is_known t) (same s t) (same u t) refl refl
    ∙ sym (ap (λ b. (b && (is_known t && not (same s t))) || differ u t) ks ∙ ap (λ b. (true && (is_known t && not (same s t))) || (b && (is_known t && not (same u t)))) ku)
  where
    clash : same s t ≡ true → same u t ≡ true → true ≡ false
    clash a b =
        let first : s ≡ t = same_is s t a in
        let second : u ≡ t = same_is u t b in
        sym (same_itself s) ∙ ap (same s) (first ∙ sym second) ∙ apart_is

    by : (k a b : Bool) → same s t ≡ a → same u t ≡ b → k ≡ ((true && (k && not a)) || (true && (k && not b)))
    by false a b e f = refl
    by true false b e f = refl
    by true true false e f = refl
    by true true true e f = clash e f

-- a type that doesn't differ from another known one tells as much
alike : (s u t : Ty) → is_known u ≡ true → differ s u ≡ false → differ u t ≡ (differ s t || differ u t)
alike s u t ku near_is = by (is_known s) refl
  where
    by : (k : Bool) → is_known s ≡ k → differ u t ≡ (differ s t || differ u t)
    by false e = ap (λ b. b || differ u t) (sym (unknown_tells s t e))
    by true e =
        let n : not (same s u) ≡ false = ap (λ b. b && not (same s u)) (sym ku) ∙ ap (λ b. b && (is_known u && not (same s u))) (sym e) ∙ near_is in
        let i : same s u ≡ true = turned (same s u) n in
        let q : s ≡ u = same_is s u i in
        or_itself (differ u t) ∙ ap (λ x. differ x t || differ u t) (sym q)
      where
        turned : (b : Bool) → not b ≡ false → b ≡ true
        turned true e = refl
        turned false e = (let z : true ≡ false = e in cc)

pub stored_more : (o : Option Stored) (u t : Ty) → is_known u ≡ true → entry_differs (Some (stored_with o u)) t ≡ (entry_differs o t || differ u t)
stored_more None u t k = refl
stored_more (Some stored_is.Mixed) u t k = known_or (is_known t) (is_known u) (not (same u t))
stored_more (Some (stored_is.One s)) u t k = by (differ s u) refl
  where
    split : (a b c : Bool) → (a && (b && not c)) ≡ true → (a ≡ true) × (c ≡ false)
    split true true false e = (refl, refl)
    split true true true e = absurd (let z : false ≡ true = e in cc)
    split true false c e = absurd (let z : false ≡ true = e in cc)
    split false b c e = absurd (let z : false ≡ true = e in cc)

    by : (b : Bool) → differ s u ≡ b → entry_differs (Some (if b then stored_is.Mixed else stored_is.One u)) t ≡ (differ s t || differ u t)
    by true e = (let p = split (is_known s) (is_known u) (same s u) e in apart s u t p.0 k p.1)
    by false e = alike s u t k e

-- a member has one more field
pub kept_more : (number k : ℕ) (old new : ℕ → Option Stored) (u t : Ty) → is_known u ≡ true
    → new k ≡ cond (nat_eq number k) (Some (stored_with (old number) u)) (old k)
    → entry_differs (new k) t ≡ (entry_differs (old k) t || (number == k && differ u t))
kept_more number k old new u t known is = ap (λ o. entry_differs o t) is ∙ by (nat_eq number k) refl
  where
    by : (b : Bool) → nat_eq number k ≡ b → entry_differs (cond b (Some (stored_with (old number) u)) (old k)) t ≡ (entry_differs (old k) t || (b && differ u t))
    by true e =
        let q : number ≡ k = eqb-true number k e in
        stored_more (old number) u t known ∙ ap (λ j. entry_differs (old j) t || differ u t) q
    by false e = or_false (entry_differs (old k) t)

pub kept_same : (number k : ℕ) (o : Option Stored) (u t : Ty) → is_known u ≡ false → entry_differs o t ≡ (entry_differs o t || (number == k && differ u t))
kept_same number k o u t e = or_false (entry_differs o t) ∙ ap (λ b. entry_differs o t || b) (sym (nothing (number == k) ∙ refl))
  where
    nothing : (b : Bool) → (b && differ u t) ≡ false
    nothing true = unknown_tells u t e
    nothing false = refl
