-- Numbers of digits that grow too large.
use Rattle.std.proofs.Common.{◌≡◌, ◌<◌, ◌+◌, ◌-◌, ◌*◌, ℕ, ◌&&◌, List, [], ◌∷◌, length, drop, get_or, Option, Some, None, leb, ap, ◌∙◌, refl, arith}
use Rattle.std.proofs.lemmas.Bool.{lt-leb, cond_both, cond-false}
use Rattle.std.proofs.lemmas.List.{drop_more}
use Rattle.sp_driver_args.specs.Words.{number_from}

-- a number that is too large stays so
pub number_big : (most n : ℕ) (ds : List ℕ) → most < n → number_from most n ds ≡ None
number_big most n [] lt = cond-false (leb n most) (Some n) None (lt-leb n most lt)
number_big most n (d ∷ ds) lt =
    let P : Option ℕ → Type 0 = λ r. r ≡ None in
    cond_both (leb 48 d && leb d 57) (number_from most (n * 10 + (d - 48)) ds) None P (λ _. number_big most (n * 10 + (d - 48)) ds (omega arith)) (λ _. refl)

-- so does one that becomes too large by the next digit
pub number_over : (most n i : ℕ) (ds : List ℕ) → i < length ds → most < n * 10 + (get_or ds i 0 - 48) → number_from most n (drop i ds) ≡ None
number_over most n i ds lt over =
    let d = get_or ds i 0 in
    let P : Option ℕ → Type 0 = λ r. r ≡ None in
    ap (λ xs. number_from most n xs) (drop_more ds i 0 lt)
    ∙ cond_both (leb 48 d && leb d 57) (number_from most (n * 10 + (d - 48)) (drop (i + 1) ds)) None P (λ _. number_big most (n * 10 + (d - 48)) (drop (i + 1) ds) over) (λ _. refl)
