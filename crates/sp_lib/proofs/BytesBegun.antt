-- The front of bytes, as std compares it and as it is defined.
use Rattle.std.proofs.Common.{◌≡◌, ℕ, List, [], ◌∷◌, refl, ap, ◌∙◌, arith}
use Rattle.std.specs.Prelude.{nat_eq, ◌==◌, ◌&&◌}
use Rattle.std.specs.List.{starts_with}
use Rattle.sp_operators.specs.Parts.{begins_with}

eq_sym : (a b : ℕ) → nat_eq a b ≡ (b == a)
eq_sym a b = grind arith

pub starts_begins : (x y : List ℕ) → starts_with nat_eq x y ≡ begins_with x y
starts_begins x [] = refl
starts_begins [] (a ∷ y) = refl
starts_begins (b ∷ x) (a ∷ y) = ap (λ t. t && starts_with nat_eq x y) (eq_sym a b) ∙ ap (λ t. (b == a) && t) (starts_begins x y)
