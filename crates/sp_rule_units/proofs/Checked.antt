-- Tests of some, and then of more.
use Rattle.std.proofs.Common.{◌≡◌, Bool, List, [], ◌∷◌, ◌++◌, Option, refl, ap, ◌∙◌, sym}
use Rattle.sp_rules.specs.declared.fault.Fault.{Fault}
use Rattle.sp_rules.specs.Least.{checked}
use Rattle.sp_rules.proofs.Least.{checked-append}
use Rattle.sp_rule_units.specs.Faults.{each}

pub checked_more : (o : Option Fault) (xs ys : List (Bool × Fault)) → checked o (xs ++ ys) ≡ checked (checked o xs) ys
checked_more = checked-append

pub each_more : {X : Type 0} (tests : X → List (Bool × Fault)) (o : Option Fault) (xs ys : List X) → checked o (each tests (xs ++ ys)) ≡ checked (checked o (each tests xs)) (each tests ys)
each_more tests o [] ys = refl
each_more tests o (x ∷ xs) ys =
    checked_more o (tests x) (each tests (xs ++ ys))
    ∙ each_more tests (checked o (tests x)) xs ys
    ∙ ap (λ z. checked z (each tests ys)) (sym (checked_more o (tests x) (each tests xs)))
