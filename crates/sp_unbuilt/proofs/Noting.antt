-- Tests of some, and then of more.
use Rattle.std.specs.Prelude.{if◌then◌else◌}
use Rattle.std.proofs.Common.{ℕ, ◌≡◌, ◌+◌, ◌<◌, Bool, List, [], ◌∷◌, ◌++◌, length, get_or, drop, Option, refl, sym, ap, ◌∙◌}
use Rattle.std.proofs.lemmas.List.{at_drop_more}
use Rattle.sp_base.specs.declared.places.Diag.{Diag}
use Rattle.sp_unbuilt.specs.First.{earlier, noted}

pub noted_more : (o : Option Diag) (xs ys : List (Bool × Diag)) → noted o (xs ++ ys) ≡ noted (noted o xs) ys
noted_more o [] ys = refl
noted_more o (x ∷ xs) ys = noted_more (if x.0 then earlier o x.1 else o) xs ys

-- a row of which the first adds its own tests to those of the rest
pub row_of_tests : {X : Type 0} (all : List X → List (Bool × Diag)) (own : X → List (Bool × Diag)) → ((x : X) (xs : List X) → all (x ∷ xs) ≡ own x ++ all xs) → (xs : List X) (i : ℕ) (x : X) (o p q : Option Diag) → i < length xs → x ≡ get_or xs i x → p ≡ noted o (own x) → noted o (all (drop i xs)) ≡ q → noted p (all (drop (i + 1) xs)) ≡ q
row_of_tests all own cons xs i x o p q lt is h before =
    let rest = all (drop (i + 1) xs) in
    let row : all (drop i xs) ≡ own x ++ rest = at_drop_more all xs i x lt ∙ ap (λ y. all (y ∷ drop (i + 1) xs)) (sym is) ∙ cons x (drop (i + 1) xs) in
    ap (λ z. noted z rest) h ∙ sym (noted_more o (own x) rest) ∙ sym (ap (noted o) row) ∙ before
