-- A vector and its last item.
use Rattle.std.proofs.Common.{◌≡◌, suc, ◌-◌, List, [], ◌∷◌, ◌++◌, length, take, Some, Ok, refl, ap, ◌∙◌, arith}
use Rattle.std.specs.Prelude.{slice_get}
use Rattle.sp_value.specs.Val.{Val, vector, Vals, no_vals, val, vals_of, list_of}
use Rattle.sp_value.specs.Changes.{IsVector, with_last, items_of}
use Rattle.sp_value.proofs.Lists.{list_of_vals_of}
use Rattle.sp_methods.specs.Taken.{last_item, without_last, parted, popped}

vals_of_list_of : (vs : Vals) → vals_of (list_of vs) ≡ vs
vals_of_list_of no_vals = refl
vals_of_list_of (val v vs) = ap (λ ws. val v ws) (vals_of_list_of vs)

length_pushed : (xs : List Val) (x : Val) → length (xs ++ x ∷ []) ≡ suc (length xs)
length_pushed [] x = refl
length_pushed (y ∷ xs) x = ap suc (length_pushed xs x)

got_last : (xs : List Val) (x : Val) → slice_get (xs ++ x ∷ []) (length xs) ≡ Some x
got_last [] x = refl
got_last (y ∷ xs) x = got_last xs x

took_front : (xs : List Val) (x : Val) → take (length xs) (xs ++ x ∷ []) ≡ xs
took_front [] x = refl
took_front (y ∷ xs) x = ap (λ ys. y ∷ ys) (took_front xs x)

module _ (vs : Vals) (x : Val) where
  items_are : items_of (with_last (vector vs) x) ≡ list_of vs ++ x ∷ []
  items_are = list_of_vals_of (list_of vs ++ x ∷ [])

  one_less : length (list_of vs ++ x ∷ []) - 1 ≡ length (list_of vs)
  one_less = let more = length_pushed (list_of vs) x in omega arith

  last_is : last_item (items_of (with_last (vector vs) x)) ≡ Some x
  last_is =
      ap last_item items_are
      ∙ ap (λ n. slice_get (list_of vs ++ x ∷ []) n) one_less
      ∙ got_last (list_of vs) x

  rest_is : without_last (with_last (vector vs) x) ≡ vector vs
  rest_is =
      ap (λ xs. vector (vals_of (take (length xs - 1) xs))) items_are
      ∙ ap (λ n. vector (vals_of (take n (list_of vs ++ x ∷ [])))) one_less
      ∙ ap (λ xs. vector (vals_of xs)) (took_front (list_of vs) x)
      ∙ ap vector (vals_of_list_of vs)

  popped_is : popped (with_last (vector vs) x) ≡ Ok (vector vs, x)
  popped_is = ap (parted (with_last (vector vs) x)) last_is ∙ ap (λ v. Ok (v, x)) rest_is

-- the last item that was put to a vector is what is taken from it
pub popped_last : (new x : Val) → IsVector (with_last new x) → popped (with_last new x) ≡ Ok (new, x)
popped_last (vector vs) x h = popped_is vs x
popped_last v x h = absurd h
