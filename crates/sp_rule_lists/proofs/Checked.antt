-- Tests of some, and then of more.
use Rattle.std.specs.Prelude.{if◌then◌else◌}
use Rattle.std.proofs.Common.{ℕ, ◌≡◌, ◌+◌, ◌<◌, Bool, List, [], ◌∷◌, ◌++◌, length, get_or, drop, Option, refl, sym, ap, ◌∙◌}
use Rattle.std.proofs.lemmas.List.{at_drop_more}
use Rattle.sp_rules.specs.declared.fault.Fault.{Fault}
use Rattle.sp_rules.specs.Least.{checked, better}

pub checked_more : (o : Option Fault) (xs ys : List (Bool × Fault)) → checked o (xs ++ ys) ≡ checked (checked o xs) ys
checked_more o [] ys = refl
checked_more o (x ∷ xs) ys = checked_more (if x.0 then better o x.1 else o) xs ys

-- One more of a row of which the first adds its own tests to those of the rest.
pub row_step : {X : Type 0} (all : List X → List (Bool × Fault)) (own : X → List (Bool × Fault)) → ((x : X) (xs : List X) → all (x ∷ xs) ≡ own x ++ all xs) → (xs : List X) (i : ℕ) (x : X) (o p q : Option Fault) → i < length xs → x ≡ get_or xs i x → p ≡ checked o (own x) → checked o (all (drop i xs)) ≡ q → checked p (all (drop (i + 1) xs)) ≡ q
row_step all own cons xs i x o p q lt is h before =
    let rest = all (drop (i + 1) xs) in
    let row : all (drop i xs) ≡ own x ++ rest = at_drop_more all xs i x lt ∙ ap (λ y. all (y ∷ drop (i + 1) xs)) (sym is) ∙ cons x (drop (i + 1) xs) in
    ap (λ z. checked z rest) h ∙ sym (checked_more o (own x) rest) ∙ sym (ap (checked o) row) ∙ before
