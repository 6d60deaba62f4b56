-- One more number in a table.
use Rattle.std.proofs.Common.{ℕ, ◌≡◌, Bool, true, false, cond, nat_eq, refl, sym, ap, ◌∙◌, List, [], ◌∷◌, ◌++◌, Option, Some}
use Rattle.std.specs.Prelude.{◌&&◌}
use Rattle.std.specs.Cmp.{nat_eq_equiv}
use Rattle.std.proofs.lemmas.Bool.{eqb-true}
use Rattle.sp_type_hook_order.specs.Keys.{are_same}
use Rattle.sp_type_hook_order.specs.inside.Buckets.{numbers_or}

both : (a b : Bool) → (a && b) ≡ true → (a ≡ true) × (b ≡ true)
both true true e = (refl, refl)
both true false e = absurd (let z : false ≡ true = e in cc)
both false b e = absurd (let z : false ≡ true = e in cc)

pub same_is : (a b : ℕ × ℕ × ℕ) → are_same a b ≡ true → a ≡ b
same_is a b e =
    let outer = both (nat_eq a.0 b.0 && nat_eq a.1 b.1) (nat_eq a.2 b.2) e in
    let inner = both (nat_eq a.0 b.0) (nat_eq a.1 b.1) outer.0 in
    let first : a.0 ≡ b.0 = eqb-true a.0 b.0 inner.0 in
    let second : a.1 ≡ b.1 = eqb-true a.1 b.1 inner.1 in
    let third : a.2 ≡ b.2 = eqb-true a.2 b.2 outer.1 in
    ap (λ (x : ℕ). (x, a.1, a.2)) first ∙ ap (λ (x : ℕ). (b.0, x, a.2)) second ∙ ap (λ (x : ℕ). (b.0, b.1, x)) third

pub same_back : (a b : ℕ × ℕ × ℕ) → are_same a b ≡ are_same b a
same_back a b =
    ap (λ x. (x && nat_eq a.1 b.1) && nat_eq a.2 b.2) (nat_eq_equiv.symm a.0 b.0)
    ∙ ap (λ x. (nat_eq b.0 a.0 && x) && nat_eq a.2 b.2) (nat_eq_equiv.symm a.1 b.1)
    ∙ ap (λ x. (nat_eq b.0 a.0 && nat_eq b.1 a.1) && x) (nat_eq_equiv.symm a.2 b.2)

pub added : (parts x : ℕ × ℕ × ℕ) (told : ℕ × ℕ × ℕ → List ℕ) (between after : Option (List ℕ)) (list : List ℕ) (number : ℕ)
    → numbers_or between ≡ cond (are_same parts x) [] (told x)
    → after ≡ cond (are_same parts x) (Some list) between
    → list ≡ told parts ++ number ∷ []
    → numbers_or after ≡ cond (are_same x parts) (told x ++ number ∷ []) (told x)
added parts x told between after list number mid is items = by (are_same parts x) refl (same_back x parts) mid is
  where
    by : (b : Bool) → are_same parts x ≡ b → are_same x parts ≡ are_same parts x → numbers_or between ≡ cond b [] (told x) → after ≡ cond b (Some list) between
        → numbers_or after ≡ cond (are_same x parts) (told x ++ number ∷ []) (told x)
    by true e back mid is =
        ap numbers_or is ∙ items ∙ ap (λ y. told y ++ number ∷ []) (same_is parts x e) ∙ ap (λ b. cond b (told x ++ number ∷ []) (told x)) (sym (back ∙ e))
    by false e back mid is = ap numbers_or is ∙ mid ∙ ap (λ b. cond b (told x ++ number ∷ []) (told x)) (sym (back ∙ e))
