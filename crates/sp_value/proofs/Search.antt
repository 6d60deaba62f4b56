-- Where a key is in an ascending list, or where it belongs, and what a change at that place does.
use Rattle.std.proofs.Common.{◌≡◌, ℕ, zero, suc, ◌+◌, ◌<◌, List, [], ◌∷◌, length, get_or, false, Some, None, Result, Ok, Err, refl, sym, ap, ◌∙◌, subst, arith}
use Rattle.std.proofs.Math.ListN.{set}
use Rattle.std.specs.List.{insert, remove}
use Rattle.std.specs.List.Sorted.{IsBinarySearchResult, IsSortedBy, IsSearchInRange}
use Rattle.std.specs.Prelude.{is_ok, is_some}
use Rattle.std.specs.declared.cmp.Ordering.TheVariants.{Less, Equal, Greater}
use Rattle.std.specs.Ordering.{match_ordering, ordering_reverse, is_lt}
use Rattle.std.proofs.lemmas.Cmp.{alike_right}
use Rattle.std.proofs.lemmas.List.Sorted.{searchable_from_sorted}
use Rattle.sp_value.specs.Val.{Val}
use Rattle.sp_value.specs.Order.{val_cmp}
use Rattle.sp_value.specs.Ascending.{IsBelowAll, IsAscending, found, with_key, without}
use Rattle.sp_value.specs.inside.Places.{IsKeyAt, IsGapAt, IsPlace}
use Rattle.sp_value.proofs.Total.{val_cmp_total}

module _ {X : Type 0} (key : X → Val) where
  below_at : (k : Val) (xs : List X) (i : ℕ) (d : X) → IsBelowAll key k xs → i < length xs → val_cmp k (key (get_or xs i d)) ≡ Less
  below_at k [] i d h g = absurd (omega arith)
  below_at k (x ∷ xs) zero d h g = h.0
  below_at k (x ∷ xs) (suc i) d h g = below_at k xs i d h.1 (omega arith)

  pub neighbours : (xs : List X) (i : ℕ) (d : X) → IsAscending key xs → suc i < length xs → val_cmp (key (get_or xs i d)) (key (get_or xs (suc i) d)) ≡ Less
  neighbours [] i d h g = absurd (omega arith)
  neighbours (x ∷ xs) zero d h g = below_at (key x) xs 0 d h.0 (omega arith)
  neighbours (x ∷ xs) (suc i) d h g = neighbours xs i d h.1 (omega arith)

  next_above : (xs : List X) (i : ℕ) (d : X) → IsAscending key xs → i + 1 < length xs → val_cmp (key (get_or xs i d)) (key (get_or xs (i + 1) d)) ≡ Less
  next_above xs i d h g = subst (λ j. val_cmp (key (get_or xs i d)) (key (get_or xs j d)) ≡ Less) {x = suc i} (omega arith) (neighbours xs i d h (omega arith))

  not_back : (a b : Val) → val_cmp a b ≡ Less → is_lt (val_cmp b a) ≡ false
  not_back a b h = ap is_lt (val_cmp_total.antisymm b a ∙ ap ordering_reverse h)

  sorted : (xs : List X) → IsAscending key xs → IsSortedBy (λ a b. is_lt (val_cmp (key a) (key b))) xs
  sorted xs h = λ i d low high. not_back (key (get_or xs i d)) (key (get_or xs (i + 1) d)) (next_above xs i d h high)

  -- what a binary search finds
  pub place_found : (xs : List X) (k : Val) (r : Result ℕ ℕ) → IsAscending key xs → IsSearchInRange r (length xs) → IsBinarySearchResult (λ x. val_cmp (key x) k) xs r → IsPlace key xs k r
  place_found xs k (Ok i) h range at = record { within = range; same = at }
  place_found xs k (Err i) h range at =
      let parts = at (searchable_from_sorted val_cmp_total key xs k (sorted xs h)) in
      record { within = range; before = parts.0; behind = parts.1 }

  -- the gap without the first
  gap_first : (x : X) (xs : List X) (k : Val) → IsGapAt key (x ∷ xs) k zero → IsGapAt key xs k zero
  gap_first x xs k gap = record {
    within = omega arith;
    before = λ j d low high. absurd (omega arith);
    behind = λ j d low high. gap.behind (suc j) d (omega arith) (omega arith);
  }

  gap_rest : (x : X) (xs : List X) (k : Val) (i : ℕ) → IsGapAt key (x ∷ xs) k (suc i) → IsGapAt key xs k i
  gap_rest x xs k i gap = record {
    within = omega (arith, gap.within);
    before = λ j d low high. gap.before (suc j) d (omega arith) (omega arith);
    behind = λ j d low high. gap.behind (suc j) d (omega arith) (omega arith);
  }

  -- a key below one that is like k is below k
  below_like : (a b k : Val) → val_cmp a b ≡ Less → val_cmp b k ≡ Equal → val_cmp a k ≡ Less
  below_like a b k h e = sym (alike_right val_cmp_total b k a e) ∙ h

  pub above_like : (a b k : Val) → val_cmp a b ≡ Less → val_cmp a k ≡ Equal → val_cmp b k ≡ Greater
  above_like a b k h e = sym (alike_right val_cmp_total a k b e) ∙ val_cmp_total.antisymm b a ∙ ap ordering_reverse h

  first_below : (x : X) (xs : List X) (k : Val) (i : ℕ) (d : X) → IsAscending key (x ∷ xs) → i < length xs → val_cmp (key (get_or xs i d)) k ≡ Equal → val_cmp (key x) k ≡ Less
  first_below x xs k i d h g e = below_like (key x) (key (get_or xs i d)) k (below_at (key x) xs i d h.0 g) e

  pub found_at : (xs : List X) (k : Val) (i : ℕ) (d : X) → IsAscending key xs → i < length xs → val_cmp (key (get_or xs i d)) k ≡ Equal → Some (get_or xs i d) ≡ found key k xs
  found_at [] k i d h g e = absurd (omega arith)
  found_at (x ∷ xs) k zero d h g e = sym (ap (λ o. match_ordering o (found key k xs) (Some x) (found key k xs)) e)
  found_at (x ∷ xs) k (suc i) d h g e =
      found_at xs k i d h.1 (omega arith) e ∙ sym (ap (λ o. match_ordering o (found key k xs) (Some x) (found key k xs)) (first_below x xs k i d h (omega arith) e))

  pub found_not : (xs : List X) (k : Val) (i : ℕ) → IsGapAt key xs k i → None ≡ found key k xs
  found_not [] k i gap = refl
  found_not (x ∷ xs) k zero gap =
      found_not xs k zero (gap_first x xs k gap)
      ∙ sym (ap (λ o. match_ordering o (found key k xs) (Some x) (found key k xs)) (gap.behind 0 x (omega arith) (omega arith)))
  found_not (x ∷ xs) k (suc i) gap =
      found_not xs k i (gap_rest x xs k i gap)
      ∙ sym (ap (λ o. match_ordering o (found key k xs) (Some x) (found key k xs)) (gap.before 0 x (omega arith) (omega arith)))

  pub put_at : (xs : List X) (x : X) (i : ℕ) (d : X) → IsAscending key xs → i < length xs → val_cmp (key (get_or xs i d)) (key x) ≡ Equal → set xs i x ≡ with_key key x xs
  put_at [] x i d h g e = absurd (omega arith)
  put_at (y ∷ ys) x zero d h g e = sym (ap (λ o. match_ordering o (y ∷ with_key key x ys) (x ∷ ys) (x ∷ y ∷ ys)) e)
  put_at (y ∷ ys) x (suc i) d h g e =
      ap (λ zs. y ∷ zs) (put_at ys x i d h.1 (omega arith) e) ∙ sym (ap (λ o. match_ordering o (y ∷ with_key key x ys) (x ∷ ys) (x ∷ y ∷ ys)) (first_below y ys (key x) i d h (omega arith) e))

  pub put_gap : (xs : List X) (x : X) (i : ℕ) → IsGapAt key xs (key x) i → insert xs i x ≡ with_key key x xs
  put_gap [] x zero gap = refl
  put_gap [] x (suc i) gap = absurd (omega (arith, gap.within))
  put_gap (y ∷ ys) x zero gap = sym (ap (λ o. match_ordering o (y ∷ with_key key x ys) (x ∷ ys) (x ∷ y ∷ ys)) (gap.behind 0 y (omega arith) (omega arith)))
  put_gap (y ∷ ys) x (suc i) gap =
      ap (λ zs. y ∷ zs) (put_gap ys x i (gap_rest y ys (key x) i gap))
      ∙ sym (ap (λ o. match_ordering o (y ∷ with_key key x ys) (x ∷ ys) (x ∷ y ∷ ys)) (gap.before 0 y (omega arith) (omega arith)))

  -- nothing has a key below all
  kept_above : (a k : Val) (xs : List X) → val_cmp a k ≡ Equal → IsBelowAll key a xs → without key k xs ≡ xs
  kept_above a k [] e h = refl
  kept_above a k (x ∷ xs) e h =
      ap (λ o. match_ordering o (x ∷ without key k xs) (without key k xs) (x ∷ without key k xs)) (above_like a (key x) k h.0 e) ∙ ap (λ ys. x ∷ ys) (kept_above a k xs e h.1)

  pub without_at : (xs : List X) (k : Val) (i : ℕ) (d : X) → IsAscending key xs → i < length xs → val_cmp (key (get_or xs i d)) k ≡ Equal → remove xs i ≡ without key k xs
  without_at [] k i d h g e = absurd (omega arith)
  without_at (x ∷ xs) k zero d h g e =
      sym (ap (λ o. match_ordering o (x ∷ without key k xs) (without key k xs) (x ∷ without key k xs)) e ∙ kept_above (key x) k xs e h.0)
  without_at (x ∷ xs) k (suc i) d h g e =
      ap (λ ys. x ∷ ys) (without_at xs k i d h.1 (omega arith) e) ∙ sym (ap (λ o. match_ordering o (x ∷ without key k xs) (without key k xs) (x ∷ without key k xs)) (first_below x xs k i d h (omega arith) e))

  pub without_gap : (xs : List X) (k : Val) (i : ℕ) → IsGapAt key xs k i → xs ≡ without key k xs
  without_gap [] k i gap = refl
  without_gap (x ∷ xs) k zero gap =
      ap (λ ys. x ∷ ys) (without_gap xs k zero (gap_first x xs k gap))
      ∙ sym (ap (λ o. match_ordering o (x ∷ without key k xs) (without key k xs) (x ∷ without key k xs)) (gap.behind 0 x (omega arith) (omega arith)))
  without_gap (x ∷ xs) k (suc i) gap =
      ap (λ ys. x ∷ ys) (without_gap xs k i (gap_rest x xs k i gap))
      ∙ sym (ap (λ o. match_ordering o (x ∷ without key k xs) (without key k xs) (x ∷ without key k xs)) (gap.before 0 x (omega arith) (omega arith)))

  pub has_from_place : (xs : List X) (k : Val) (r : Result ℕ ℕ) → IsAscending key xs → IsPlace key xs k r → is_ok r ≡ is_some (found key k xs)
  has_from_place [] k (Ok i) h at = absurd (omega (arith, at.within))
  has_from_place (x ∷ xs) k (Ok i) h at = ap is_some (found_at (x ∷ xs) k i x h at.within (at.same x))
  has_from_place xs k (Err i) h gap = ap is_some (found_not xs k i gap)

  pub without_key_at : (xs : List X) (k : Val) (i : ℕ) → IsAscending key xs → IsKeyAt key xs k i → remove xs i ≡ without key k xs
  without_key_at [] k i h at = absurd (omega (arith, at.within))
  without_key_at (x ∷ xs) k i h at = without_at (x ∷ xs) k i x h at.within (at.same x)
