-- What is found in a list where a key was put or taken away.
use Rattle.std.proofs.Common.{◌≡◌, ◌≢◌, List, [], ◌∷◌, Some, None, refl, sym, ap, ◌∙◌}
use Rattle.std.specs.declared.cmp.Ordering.{Ordering}
use Rattle.std.specs.declared.cmp.Ordering.TheVariants.{Less, Equal, Greater}
use Rattle.std.specs.Ordering.{match_ordering}
use Rattle.std.proofs.lemmas.Cmp.{tied_itself}
use Rattle.sp_value.specs.Val.{Val}
use Rattle.sp_value.specs.Order.{val_cmp}
use Rattle.sp_value.specs.Ascending.{found, with_key, without}
use Rattle.sp_value.proofs.Total.{val_cmp_total}

module _ {X : Type 0} (key : X → Val) where
  -- the first is another key
  passed : (k : Val) (x : X) (xs : List X) → val_cmp (key x) k ≢ Equal → found key k (x ∷ xs) ≡ found key k xs
  passed k x xs other = by (val_cmp (key x) k) other
    where
      by : (o : Ordering) → o ≢ Equal → match_ordering o (found key k xs) (Some x) (found key k xs) ≡ found key k xs
      by Less other = refl
      by Equal other = absurd (other refl)
      by Greater other = refl

  here : (k : Val) (x : X) (xs : List X) → val_cmp (key x) k ≡ Equal → found key k (x ∷ xs) ≡ Some x
  here k x xs same = ap (λ o. match_ordering o (found key k xs) (Some x) (found key k xs)) same

  -- an element before decides alike in two lists
  behind : (k : Val) (x : X) (xs ys : List X) → found key k xs ≡ found key k ys → found key k (x ∷ xs) ≡ found key k (x ∷ ys)
  behind k x xs ys same = ap (λ r. match_ordering (val_cmp (key x) k) r (Some x) r) same

  with_by : (x y : X) (ys : List X) (o : Ordering) → val_cmp (key y) (key x) ≡ o → found key (key x) (with_key key x ys) ≡ Some x → found key (key x) (match_ordering o (y ∷ with_key key x ys) (x ∷ ys) (x ∷ y ∷ ys)) ≡ Some x
  with_by x y ys Less e r = ap (λ o. match_ordering o (found key (key x) (with_key key x ys)) (Some y) (found key (key x) (with_key key x ys))) e ∙ r
  with_by x y ys Equal e r = here (key x) x ys (tied_itself val_cmp_total (key x))
  with_by x y ys Greater e r = here (key x) x (y ∷ ys) (tied_itself val_cmp_total (key x))

  pub found_with : (x : X) (xs : List X) → found key (key x) (with_key key x xs) ≡ Some x
  found_with x [] = here (key x) x [] (tied_itself val_cmp_total (key x))
  found_with x (y ∷ ys) = with_by x y ys (val_cmp (key y) (key x)) refl (found_with x ys)

  other_by : (k : Val) (x y : X) (ys : List X) (o : Ordering) → val_cmp (key x) k ≢ Equal → val_cmp (key y) (key x) ≡ o → found key k (with_key key x ys) ≡ found key k ys → found key k (match_ordering o (y ∷ with_key key x ys) (x ∷ ys) (x ∷ y ∷ ys)) ≡ found key k (y ∷ ys)
  other_by k x y ys Less other e r = behind k y (with_key key x ys) ys r
  other_by k x y ys Equal other e r = passed k x ys other ∙ sym (passed k y ys (λ same. other (sym (val_cmp_total.congr (key y) (key x) k e) ∙ same)))
  other_by k x y ys Greater other e r = passed k x (y ∷ ys) other

  pub found_other_with : (k : Val) (x : X) (xs : List X) → val_cmp (key x) k ≢ Equal → found key k (with_key key x xs) ≡ found key k xs
  found_other_with k x [] other = passed k x [] other
  found_other_with k x (y ∷ ys) other = other_by k x y ys (val_cmp (key y) (key x)) other refl (found_other_with k x ys other)

  without_by : (k : Val) (x : X) (xs : List X) (o : Ordering) → val_cmp (key x) k ≡ o → found key k (without key k xs) ≡ None → found key k (match_ordering o (x ∷ without key k xs) (without key k xs) (x ∷ without key k xs)) ≡ None
  without_by k x xs Less e r = ap (λ o. match_ordering o (found key k (without key k xs)) (Some x) (found key k (without key k xs))) e ∙ r
  without_by k x xs Equal e r = r
  without_by k x xs Greater e r = ap (λ o. match_ordering o (found key k (without key k xs)) (Some x) (found key k (without key k xs))) e ∙ r

  pub found_without : (k : Val) (xs : List X) → found key k (without key k xs) ≡ None
  found_without k [] = refl
  found_without k (x ∷ xs) = without_by k x xs (val_cmp (key x) k) refl (found_without k xs)

  other_without_by : (j k : Val) (x : X) (xs : List X) (o : Ordering) → val_cmp k j ≢ Equal → val_cmp (key x) k ≡ o → found key j (without key k xs) ≡ found key j xs → found key j (match_ordering o (x ∷ without key k xs) (without key k xs) (x ∷ without key k xs)) ≡ found key j (x ∷ xs)
  other_without_by j k x xs Less other e r = behind j x (without key k xs) xs r
  other_without_by j k x xs Equal other e r = r ∙ sym (passed j x xs (λ same. other (sym (val_cmp_total.congr (key x) k j e) ∙ same)))
  other_without_by j k x xs Greater other e r = behind j x (without key k xs) xs r

  pub found_other_without : (j k : Val) (xs : List X) → val_cmp k j ≢ Equal → found key j (without key k xs) ≡ found key j xs
  found_other_without j k [] other = refl
  found_other_without j k (x ∷ xs) other = other_without_by j k x xs (val_cmp (key x) k) other refl (found_other_without j k xs other)
