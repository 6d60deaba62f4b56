-- What is noted of tests is the first of those that hold.
use Rattle.std.specs.Prelude.{◌==◌, nat_lt, if◌then◌else◌}
use Rattle.std.proofs.Common.{ℕ, ◌≡◌, ◌⊎◌, Bool, true, false, List, [], ◌∷◌, Option, Some, None, refl, sym, ap, subst, arith, inl, inr}
use Rattle.std.proofs.lemmas.Bool.Decides.{nat_tests}
use Rattle.sp_base.specs.declared.places.Diag.{Diag}
use Rattle.sp_rules.specs.Least.{Among}
use Rattle.sp_unbuilt.specs.First.{precedes, noted, IsFirst}

-- a module and a place, and their comparison
abbrev by_keys : (a b p q : ℕ) → Bool
by_keys a b p q = if a == p then nat_lt b q else nat_lt a p

keys_self : (a b : ℕ) → by_keys a b a b ≡ false
keys_self a b = grind (arith, nat_tests)

-- by one key, and then by the rest
abbrev then_by : ℕ → ℕ → Bool → Bool
then_by a p rest = if a == p then rest else nat_lt a p

then_not_before : (a p x : ℕ) (r s t : Bool) → (r ≡ false → s ≡ false → t ≡ false) → then_by a p r ≡ false → then_by p x s ≡ false → then_by a x t ≡ false
then_not_before a p x true true true h k l = grind (arith, nat_tests)
then_not_before a p x true true false h k l = grind (arith, nat_tests)
then_not_before a p x true false true h k l = grind (arith, nat_tests)
then_not_before a p x true false false h k l = grind (arith, nat_tests)
then_not_before a p x false true true h k l = grind (arith, nat_tests)
then_not_before a p x false true false h k l = grind (arith, nat_tests)
then_not_before a p x false false true h k l = (let e : true ≡ false = h refl refl in let b : ⊥ = (cc) in absurd b)
then_not_before a p x false false false h k l = grind (arith, nat_tests)

keys_not_before : (a b p q x y : ℕ) → by_keys a b p q ≡ false → by_keys p q x y ≡ false → by_keys a b x y ≡ false
keys_not_before a b p q x y = then_not_before a p x _ _ _ (λ h k. grind (arith, nat_tests))

keys_not_both : (a b p q : ℕ) → by_keys a b p q ≡ true → by_keys p q a b ≡ false
keys_not_both a b p q h = grind (arith, nat_tests)

before_self : (d : Diag) → precedes d d ≡ false
before_self d = keys_self d.«module» d.span.from

not_before : (d m e : Diag) → precedes d m ≡ false → precedes m e ≡ false → precedes d e ≡ false
not_before d m e h k = keys_not_before d.«module» d.span.from m.«module» m.span.from e.«module» e.span.from h k

not_both : (d e : Diag) → precedes d e ≡ true → precedes e d ≡ false
not_both d e h = keys_not_both d.«module» d.span.from e.«module» e.span.from h

-- a test that doesn't hold is none that does
not_held : {A : Type 0} (x d : Diag) → ◌≡◌ {A = Bool × Diag} (false, x) (true, d) → A
not_held x d e = absurd (let q : false ≡ true = ap (λ (p : Bool × Diag). p.0) e in cc)

-- the first so far and the rest
record Held (g : Diag) (cs : List (Bool × Diag)) (d : Diag) : Type 0 where
  stands : (g ≡ d) ⊎ Among cs (true, d)
  old : precedes g d ≡ false
  rest : (x : Diag) → Among cs (true, x) → precedes x d ≡ false

passed : (g x : Diag) (cs : List (Bool × Diag)) (d : Diag) → Held g cs d → Held g ((false, x) ∷ cs) d
passed g x cs d h = record {
  stands = elim h.stands [ inl is ↦ inl is | inr later ↦ inr (inr later) ];
  old = h.old;
  rest = λ y among. elim among [ inl is ↦ not_held x y is | inr later ↦ h.rest y later ];
}

held_new : (g x : Diag) (cs : List (Bool × Diag)) (d : Diag) → precedes x g ≡ true → Held x cs d → Held g ((true, x) ∷ cs) d
held_new g x cs d e h = record {
  stands = inr (elim h.stands [ inl is ↦ inl (ap (λ (y : Diag). (true, y)) is) | inr later ↦ inr later ]);
  old = not_before g x d (not_both x g e) h.old;
  rest = λ y among. elim among [ inl is ↦ subst (λ z. precedes z d ≡ false) (ap (λ (p : Bool × Diag). p.1) is) h.old | inr later ↦ h.rest y later ];
}

held_old : (g x : Diag) (cs : List (Bool × Diag)) (d : Diag) → precedes x g ≡ false → Held g cs d → Held g ((true, x) ∷ cs) d
held_old g x cs d e h = record {
  stands = elim h.stands [ inl is ↦ inl is | inr later ↦ inr (inr later) ];
  old = h.old;
  rest = λ y among. elim among [ inl is ↦ subst (λ z. precedes z d ≡ false) (ap (λ (p : Bool × Diag). p.1) is) (not_before x g d e h.old) | inr later ↦ h.rest y later ];
}

held : (g : Diag) (cs : List (Bool × Diag)) → (d : Diag) × (noted (Some g) cs ≡ Some d) × Held g cs d
held g [] = (g, refl, record { stands = inl refl; old = before_self g; rest = λ x h. elim h [ ] })
held g ((false, x) ∷ cs) = (let r = held g cs in (r.0, r.1, passed g x cs r.0 r.2))
held g ((true, x) ∷ cs) =
    elim (precedes x g) as (λ b. precedes x g ≡ b → (d : Diag) × (noted (Some (if b then x else g)) cs ≡ Some d) × Held g ((true, x) ∷ cs) d) [
      | true ↦ λ e. (let r = held x cs in (r.0, r.1, held_new g x cs r.0 e r.2))
      | false ↦ λ e. (let r = held g cs in (r.0, r.1, held_old g x cs r.0 e r.2))
    ] refl

-- what is first of one set is first of an equal one
pub first_of_same : (P Q : Diag → Type 0) (o : Option Diag) → ((d : Diag) → P d → Q d) → ((d : Diag) → Q d → P d) → IsFirst P o → IsFirst Q o
first_of_same P Q None to from h = λ d q. h d (from d q)
first_of_same P Q (Some d) to from h = (to d h.0, λ e q. h.1 e (from e q))

pub noted_is_first : (cs : List (Bool × Diag)) → IsFirst (λ d. Among cs (true, d)) (noted None cs)
noted_is_first [] = λ d h. h
noted_is_first ((false, x) ∷ cs) =
    first_of_same (λ d. Among cs (true, d)) (λ d. Among ((false, x) ∷ cs) (true, d)) (noted None cs) (λ d h. inr h)
    (λ d h. elim h [ inl is ↦ not_held x d is | inr later ↦ later ])
    (noted_is_first cs)
noted_is_first ((true, x) ∷ cs) =
    let r = held x cs in
    let new : Held x ((true, x) ∷ cs) r.0 = held_old x x cs r.0 (before_self x) r.2 in
    subst (IsFirst (λ d. Among ((true, x) ∷ cs) (true, d))) (sym r.1) (elim r.2.stands [ inl is ↦ inl (ap (λ (y : Diag). (true, y)) is) | inr later ↦ inr later ], new.rest)
