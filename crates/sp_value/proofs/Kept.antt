-- An ascending list stays one where a key is put or taken away.
use Rattle.std.proofs.Common.{◌≡◌, List, [], ◌∷◌, Option, None, Some, refl, sym, ap, ◌∙◌}
use Rattle.std.specs.Option.{option_map_or}
use Rattle.std.specs.declared.cmp.Ordering.{Ordering}
use Rattle.std.specs.declared.cmp.Ordering.TheVariants.{Less, Equal, Greater}
use Rattle.std.specs.Ordering.{match_ordering, ordering_reverse}
use Rattle.sp_value.specs.Val.{Val}
use Rattle.sp_value.specs.Order.{val_cmp}
use Rattle.sp_value.specs.Ascending.{IsBelowAll, IsAscending, entry_key, found, with_key, without}
use Rattle.sp_value.specs.Changes.{with_value_in}
use Rattle.sp_value.proofs.Total.{val_cmp_total}

module _ {X : Type 0} (key : X → Val) where
  below_more : (a b : Val) (xs : List X) → val_cmp a b ≡ Less → IsBelowAll key b xs → IsBelowAll key a xs
  below_more a b [] h g = tt
  below_more a b (x ∷ xs) h g = (val_cmp_total.trans a b (key x) h g.0, below_more a b xs h g.1)

  below_same : (a b : Val) (xs : List X) → val_cmp a b ≡ Equal → IsBelowAll key a xs → IsBelowAll key b xs
  below_same a b [] h g = tt
  below_same a b (x ∷ xs) h g = (sym (val_cmp_total.congr a b (key x) h) ∙ g.0, below_same a b xs h g.1)

  below_with_by : (k : Val) (x y : X) (ys : List X) (o : Ordering) → val_cmp k (key x) ≡ Less → IsBelowAll key k (y ∷ ys) → IsBelowAll key k (with_key key x ys) → IsBelowAll key k (match_ordering o (y ∷ with_key key x ys) (x ∷ ys) (x ∷ y ∷ ys))
  below_with_by k x y ys Less h g r = (g.0, r)
  below_with_by k x y ys Equal h g r = (h, g.1)
  below_with_by k x y ys Greater h g r = (h, g)

  below_with : (k : Val) (x : X) (xs : List X) → val_cmp k (key x) ≡ Less → IsBelowAll key k xs → IsBelowAll key k (with_key key x xs)
  below_with k x [] h g = (h, tt)
  below_with k x (y ∷ ys) h g = below_with_by k x y ys (val_cmp (key y) (key x)) h g (below_with k x ys h g.1)

  ascending_with_by : (x y : X) (ys : List X) (o : Ordering) → val_cmp (key y) (key x) ≡ o → IsAscending key (y ∷ ys) → IsAscending key (with_key key x ys) → IsAscending key (match_ordering o (y ∷ with_key key x ys) (x ∷ ys) (x ∷ y ∷ ys))
  ascending_with_by x y ys Less e h r = (below_with (key y) x ys e h.0, r)
  ascending_with_by x y ys Equal e h r = (below_same (key y) (key x) ys e h.0, h.1)
  ascending_with_by x y ys Greater e h r =
      let above : val_cmp (key x) (key y) ≡ Less = val_cmp_total.antisymm (key x) (key y) ∙ ap ordering_reverse e in
      ((above, below_more (key x) (key y) ys above h.0), h)

  pub ascending_with : (x : X) (xs : List X) → IsAscending key xs → IsAscending key (with_key key x xs)
  ascending_with x [] h = (tt, tt)
  ascending_with x (y ∷ ys) h = ascending_with_by x y ys (val_cmp (key y) (key x)) refl h (ascending_with x ys h.1)

  below_without_by : (a k : Val) (x : X) (xs : List X) (o : Ordering) → val_cmp a (key x) ≡ Less → IsBelowAll key a (without key k xs) → IsBelowAll key a (match_ordering o (x ∷ without key k xs) (without key k xs) (x ∷ without key k xs))
  below_without_by a k x xs Less h r = (h, r)
  below_without_by a k x xs Equal h r = r
  below_without_by a k x xs Greater h r = (h, r)

  below_without : (a k : Val) (xs : List X) → IsBelowAll key a xs → IsBelowAll key a (without key k xs)
  below_without a k [] g = tt
  below_without a k (x ∷ xs) g = below_without_by a k x xs (val_cmp (key x) k) g.0 (below_without a k xs g.1)

  ascending_without_by : (k : Val) (x : X) (xs : List X) (o : Ordering) → IsBelowAll key (key x) xs → IsAscending key (without key k xs) → IsAscending key (match_ordering o (x ∷ without key k xs) (without key k xs) (x ∷ without key k xs))
  ascending_without_by k x xs Less h r = (below_without (key x) k xs h, r)
  ascending_without_by k x xs Equal h r = r
  ascending_without_by k x xs Greater h r = (below_without (key x) k xs h, r)

  pub ascending_without : (k : Val) (xs : List X) → IsAscending key xs → IsAscending key (without key k xs)
  ascending_without k [] h = tt
  ascending_without k (x ∷ xs) h = ascending_without_by k x xs (val_cmp (key x) k) h.0 (ascending_without k xs h.1)

-- a map's entries ascend where one of them has another value
ascending_with_found : (k v : Val) (es : List (Val × Val)) (o : Option (Val × Val)) → IsAscending entry_key es → IsAscending entry_key (option_map_or (λ e. with_key entry_key (e.0, v) es) o es)
ascending_with_found k v es None h = h
ascending_with_found k v es (Some e) h = ascending_with entry_key (e.0, v) es h

pub ascending_with_value : (k v : Val) (es : List (Val × Val)) → IsAscending entry_key es → IsAscending entry_key (with_value_in es k v)
ascending_with_value k v es h = ascending_with_found k v es (found entry_key k es) h
