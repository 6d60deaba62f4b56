-- Lists of values and of entries, there and back.
use Rattle.std.proofs.Common.{◌≡◌, List, [], ◌∷◌, refl, ap}
use Rattle.sp_value.specs.Val.{Val, vals_of, list_of, entries_of, pairs_of}

pub list_of_vals_of : (xs : List Val) → list_of (vals_of xs) ≡ xs
list_of_vals_of [] = refl
list_of_vals_of (x ∷ xs) = ap (λ ys. x ∷ ys) (list_of_vals_of xs)

pub pairs_of_entries_of : (es : List (Val × Val)) → pairs_of (entries_of es) ≡ es
pairs_of_entries_of [] = refl
pairs_of_entries_of (e ∷ es) = ap (λ fs. e ∷ fs) (pairs_of_entries_of es)
