-- Where a key is in a list that is kept in pieces, and what a change of one piece makes of the list.
use Rattle.std.proofs.Common.{◌≡◌, ◌≢◌, ℕ, zero, suc, ◌+◌, ◌<◌, ◌-◌, List, [], ◌∷◌, ◌++◌, length, get_or, Option, Some, None, Result, Ok, Err, refl, sym, ap, ◌∙◌, subst, arith}
use Rattle.std.proofs.Math.ListN.{set}
use Rattle.std.specs.Prelude.{Bool, true, false, if◌then◌else◌, is_some, IfOk, OnOk, OnErr, IfSome, unwrap_or}
use Rattle.std.specs.Option.{option_map, option_map_or}
use Rattle.std.specs.declared.rc.Rc.{Rc}
use Rattle.std.specs.declared.vec.Vec.{Vec}
use Rattle.std.specs.declared.cmp.Ordering.{Ordering}
use Rattle.std.specs.declared.cmp.Ordering.TheVariants.{Less, Equal, Greater}
use Rattle.std.specs.Ordering.{match_ordering, ordering_reverse}
use Rattle.std.proofs.lemmas.Cmp.{alike_right}
use Rattle.sp_value.specs.Val.{Val}
use Rattle.sp_value.specs.Order.{val_cmp}
use Rattle.sp_value.specs.Ascending.{entry_key, IsBelowAll, IsAscending, found, with_key, without}
use Rattle.sp_value.specs.Changes.{with_value_in}
use Rattle.sp_value.specs.inside.Places.{IsKeyAt, IsGapAt}
use Rattle.sp_value.specs.Pieces.{all_in, NoneEmpty, first_key, AreBelow, IsIn, ArePieces}
use Rattle.sp_value.proofs.Search.{neighbours, above_like}
use Rattle.sp_value.proofs.PieceLists.{same_in, length_in, none_at, none_with}
use Rattle.sp_value.proofs.Kept.{ascending_with, ascending_without, ascending_with_value}
use Rattle.sp_value.proofs.Total.{val_cmp_total}

above : (a b : Val) → val_cmp a b ≡ Less → val_cmp b a ≡ Greater
above a b h = val_cmp_total.antisymm b a ∙ ap ordering_reverse h

below : (a b : Val) → val_cmp a b ≡ Greater → val_cmp b a ≡ Less
below a b h = val_cmp_total.antisymm b a ∙ ap ordering_reverse h

less_by : (a b k : Val) (o : Ordering) → val_cmp a b ≡ Less → val_cmp b k ≡ o → o ≢ Greater → val_cmp a k ≡ Less
less_by a b k Less h e n = val_cmp_total.trans a b k h e
less_by a b k Equal h e n = sym (alike_right val_cmp_total b k a e) ∙ h
less_by a b k Greater h e n = absurd (n refl)

module _ {X : Type 0} (key : X → Val) where
  below_front : (k : Val) (xs ys : List X) → IsBelowAll key k (xs ++ ys) → IsBelowAll key k xs
  below_front k [] ys h = tt
  below_front k (x ∷ xs) ys h = (h.0, below_front k xs ys h.1)

  below_back : (k : Val) (xs ys : List X) → IsBelowAll key k (xs ++ ys) → IsBelowAll key k ys
  below_back k [] ys h = h
  below_back k (x ∷ xs) ys h = below_back k xs ys h.1

  front_ascends : (xs ys : List X) → IsAscending key (xs ++ ys) → IsAscending key xs
  front_ascends [] ys h = tt
  front_ascends (x ∷ xs) ys h = (below_front (key x) xs ys h.0, front_ascends xs ys h.1)

  back_ascends : (xs ys : List X) → IsAscending key (xs ++ ys) → IsAscending key ys
  back_ascends [] ys h = h
  back_ascends (x ∷ xs) ys h = back_ascends xs ys h.1

  below_more : (a b : Val) (xs : List X) → val_cmp a b ≡ Less → IsBelowAll key b xs → IsBelowAll key a xs
  below_more a b [] h g = tt
  below_more a b (x ∷ xs) h g = (val_cmp_total.trans a b (key x) h g.0, below_more a b xs h g.1)

  below_same : (a b : Val) (xs : List X) → val_cmp a b ≡ Equal → IsBelowAll key a xs → IsBelowAll key b xs
  below_same a b [] h g = tt
  below_same a b (x ∷ xs) h g = (sym (val_cmp_total.congr a b (key x) h) ∙ g.0, below_same a b xs h g.1)

  above_same : (a b : Val) (xs : List X) → val_cmp a b ≡ Equal → AreBelow key a xs → AreBelow key b xs
  above_same a b [] h g = tt
  above_same a b (x ∷ xs) h g = (sym (alike_right val_cmp_total a b (key x) h) ∙ g.0, above_same a b xs h g.1)

  -- what is asked of a list whose front, or whose back, lies on one side of the key
  found_below : (k : Val) (xs ys : List X) → AreBelow key k xs → found key k (xs ++ ys) ≡ found key k ys
  found_below k [] ys h = refl
  found_below k (x ∷ xs) ys h = ap (λ o. match_ordering o (found key k (xs ++ ys)) (Some x) (found key k (xs ++ ys))) h.0 ∙ found_below k xs ys h.1

  found_above : (k : Val) (xs ys : List X) → IsBelowAll key k ys → found key k (xs ++ ys) ≡ found key k xs
  found_above k [] [] h = refl
  found_above k [] (y ∷ ys) h = ap (λ o. match_ordering o (found key k ys) (Some y) (found key k ys)) (above k (key y) h.0) ∙ found_above k [] ys h.1
  found_above k (x ∷ xs) ys h = ap (λ r. match_ordering (val_cmp (key x) k) r (Some x) r) (found_above k xs ys h)

  with_below : (x : X) (xs ys : List X) → AreBelow key (key x) xs → with_key key x (xs ++ ys) ≡ xs ++ with_key key x ys
  with_below x [] ys h = refl
  with_below x (z ∷ zs) ys h =
      ap (λ o. match_ordering o (z ∷ with_key key x (zs ++ ys)) (x ∷ zs ++ ys) (x ∷ z ∷ zs ++ ys)) h.0 ∙ ap (λ l. z ∷ l) (with_below x zs ys h.1)

  with_above_by : (x z : X) (zs ys : List X) (o : Ordering) → with_key key x (zs ++ ys) ≡ with_key key x zs ++ ys → match_ordering o (z ∷ with_key key x (zs ++ ys)) (x ∷ zs ++ ys) (x ∷ z ∷ zs ++ ys) ≡ match_ordering o (z ∷ with_key key x zs) (x ∷ zs) (x ∷ z ∷ zs) ++ ys
  with_above_by x z zs ys Less r = ap (λ l. z ∷ l) r
  with_above_by x z zs ys Equal r = refl
  with_above_by x z zs ys Greater r = refl

  with_above : (x : X) (xs ys : List X) → IsBelowAll key (key x) ys → with_key key x (xs ++ ys) ≡ with_key key x xs ++ ys
  with_above x [] [] h = refl
  with_above x [] (y ∷ ys) h = ap (λ o. match_ordering o (y ∷ with_key key x ys) (x ∷ ys) (x ∷ y ∷ ys)) (above (key x) (key y) h.0)
  with_above x (z ∷ zs) ys h = with_above_by x z zs ys (val_cmp (key z) (key x)) (with_above x zs ys h)

  without_below : (k : Val) (xs ys : List X) → AreBelow key k xs → without key k (xs ++ ys) ≡ xs ++ without key k ys
  without_below k [] ys h = refl
  without_below k (x ∷ xs) ys h =
      ap (λ o. match_ordering o (x ∷ without key k (xs ++ ys)) (without key k (xs ++ ys)) (x ∷ without key k (xs ++ ys))) h.0 ∙ ap (λ l. x ∷ l) (without_below k xs ys h.1)

  without_above_by : (k : Val) (x : X) (xs ys : List X) (o : Ordering) → without key k (xs ++ ys) ≡ without key k xs ++ ys → match_ordering o (x ∷ without key k (xs ++ ys)) (without key k (xs ++ ys)) (x ∷ without key k (xs ++ ys)) ≡ match_ordering o (x ∷ without key k xs) (without key k xs) (x ∷ without key k xs) ++ ys
  without_above_by k x xs ys Less r = ap (λ l. x ∷ l) r
  without_above_by k x xs ys Equal r = r
  without_above_by k x xs ys Greater r = ap (λ l. x ∷ l) r

  without_above : (k : Val) (xs ys : List X) → IsBelowAll key k ys → without key k (xs ++ ys) ≡ without key k xs ++ ys
  without_above k [] [] h = refl
  without_above k [] (y ∷ ys) h = ap (λ o. match_ordering o (y ∷ without key k ys) (without key k ys) (y ∷ without key k ys)) (above k (key y) h.0) ∙ ap (λ l. y ∷ l) (without_above k [] ys h.1)
  without_above k (x ∷ xs) ys h = without_above_by k x xs ys (val_cmp (key x) k) (without_above k xs ys h)

  -- the first key of a list with more behind it
  first_above : (a : Val) (xs ys : List X) → 0 < length xs → IsBelowAll key a (xs ++ ys) → val_cmp a (first_key key xs) ≡ Less
  first_above a [] ys n h = absurd (omega arith)
  first_above a (x ∷ xs) ys n h = h.0

  first_below : (xs ys : List X) → 0 < length xs → IsAscending key (xs ++ ys) → IsBelowAll key (first_key key xs) ys
  first_below [] ys n h = absurd (omega arith)
  first_below (x ∷ xs) ys n h = below_back (key x) xs ys h.0

  all_above : (k : Val) (xs ys : List X) → 0 < length xs → IsAscending key (xs ++ ys) → val_cmp k (first_key key xs) ≡ Less → IsBelowAll key k (xs ++ ys)
  all_above k [] ys n h e = absurd (omega arith)
  all_above k (x ∷ xs) ys n h e = (e, below_more k (key x) (xs ++ ys) e h.0)

  all_below : (f k : Val) (xs ys : List X) → IsAscending key (xs ++ ys) → ((a : Val) → IsBelowAll key a ys → val_cmp a f ≡ Less) → val_cmp f k ≢ Greater → AreBelow key k xs
  all_below f k [] ys h g n = tt
  all_below f k (x ∷ xs) ys h g n = (less_by (key x) f k (val_cmp f k) (g (key x) (below_back (key x) xs ys h.0)) refl n, all_below f k xs ys h.1 g n)

  with_some_by : (x y : X) (ys : List X) (o : Ordering) → 0 < length (match_ordering o (y ∷ with_key key x ys) (x ∷ ys) (x ∷ y ∷ ys))
  with_some_by x y ys Less = omega arith
  with_some_by x y ys Equal = omega arith
  with_some_by x y ys Greater = omega arith

  with_some : (x : X) (xs : List X) → 0 < length (with_key key x xs)
  with_some x [] = omega arith
  with_some x (y ∷ ys) = with_some_by x y ys (val_cmp (key y) (key x))

  module _ {Y Z : Type 0} where
    abbrev pub piece_key : Rc (Vec X Y) Z → Val
    piece_key p = first_key key p.value.items

    first_of : (a : Val) (ps : List (Rc (Vec X Y) Z)) (c : ℕ) (d : Rc (Vec X Y) Z) → NoneEmpty ps → c < length ps → IsBelowAll key a (all_in ps) → val_cmp a (piece_key (get_or ps c d)) ≡ Less
    first_of a [] c d n h b = absurd (omega arith)
    first_of a (p ∷ ps) zero d n h b = first_above a p.value.items (all_in ps) n.0 b
    first_of a (p ∷ ps) (suc c) d n h b = first_of a ps c d n.1 (omega arith) (below_back a p.value.items (all_in ps) b)

    firsts_above : (a : Val) (ps : List (Rc (Vec X Y) Z)) → NoneEmpty ps → IsBelowAll key a (all_in ps) → IsBelowAll piece_key a ps
    firsts_above a [] n b = tt
    firsts_above a (p ∷ ps) n b = (first_above a p.value.items (all_in ps) n.0 b, firsts_above a ps n.1 (below_back a p.value.items (all_in ps) b))

    pub firsts_ascend : (ps : List (Rc (Vec X Y) Z)) → NoneEmpty ps → IsAscending key (all_in ps) → IsAscending piece_key ps
    firsts_ascend [] n h = tt
    firsts_ascend (p ∷ ps) n h = (firsts_above (piece_key p) ps n.1 (first_below p.value.items (all_in ps) n.0 h), firsts_ascend ps n.1 (back_ascends p.value.items (all_in ps) h))

    pub piece_ascends : (ps : List (Rc (Vec X Y) Z)) (c : ℕ) (d : Rc (Vec X Y) Z) → IsAscending key (all_in ps) → c < length ps → IsAscending key (get_or ps c d).value.items
    piece_ascends [] c d h l = absurd (omega arith)
    piece_ascends (p ∷ ps) zero d h l = front_ascends p.value.items (all_in ps) h
    piece_ascends (p ∷ ps) (suc c) d h l = piece_ascends ps c d (back_ascends p.value.items (all_in ps) h) (omega arith)

    behind_above : (k : Val) (ps : List (Rc (Vec X Y) Z)) (d : Rc (Vec X Y) Z) → NoneEmpty ps → IsAscending key (all_in ps) → (0 < length ps → val_cmp (piece_key (get_or ps 0 d)) k ≡ Greater) → IsBelowAll key k (all_in ps)
    behind_above k [] d n h g = tt
    behind_above k (p ∷ ps) d n h g = all_above k p.value.items (all_in ps) n.0 h (below (piece_key p) k (g (omega arith)))

    in_piece : (k : Val) (ps : List (Rc (Vec X Y) Z)) (c : ℕ) (d : Rc (Vec X Y) Z) → NoneEmpty ps → IsAscending key (all_in ps) → c < length ps → (0 < c → val_cmp (piece_key (get_or ps c d)) k ≢ Greater) → (suc c < length ps → val_cmp (piece_key (get_or ps (suc c) d)) k ≡ Greater) → IsIn key k ps c
    in_piece k [] c d n h l low high = absurd (omega arith)
    in_piece k (p ∷ ps) zero d n h l low high = behind_above k ps d n.1 (back_ascends p.value.items (all_in ps) h) (λ more. high (omega arith))
    in_piece k (p ∷ ps) (suc c) d n h l low high = (
      all_below (piece_key (get_or ps c d)) k p.value.items (all_in ps) h (λ a b. first_of a ps c d n.1 (omega arith) b) (low (omega arith)),
      in_piece k ps c d n.1 (back_ascends p.value.items (all_in ps) h) (omega arith) (λ more. low (omega arith)) (λ more. high (omega arith)),
    )

    -- the last piece whose first key isn't greater, or else the first, is that of the key
    pub piece_found : (k : Val) (ps : List (Rc (Vec X Y) Z)) (c : ℕ) → ArePieces key ps → c < length ps → IsKeyAt piece_key ps k c → IsIn key k ps c
    piece_found k [] c are l at = absurd (omega arith)
    piece_found k (p ∷ ps) c are l at =
        in_piece k (p ∷ ps) c p are.none_empty are.ascending l (λ more e. not_both (val_cmp (piece_key (get_or (p ∷ ps) c p)) k) (at.same p) e) (λ more. behind more)
      where
        not_both : (o : Ordering) → o ≡ Equal → o ≡ Greater → ⊥
        not_both o e f = let q : Equal ≡ Greater = sym e ∙ f in cc

        ascend : IsAscending piece_key (p ∷ ps)
        ascend = firsts_ascend (p ∷ ps) are.none_empty are.ascending

        behind : suc c < length (p ∷ ps) → val_cmp (piece_key (get_or (p ∷ ps) (suc c) p)) k ≡ Greater
        behind more = above_like piece_key (piece_key (get_or (p ∷ ps) c p)) (piece_key (get_or (p ∷ ps) (suc c) p)) k (neighbours piece_key (p ∷ ps) c p ascend more) (at.same p)

    pub piece_of_gap : (k : Val) (ps : List (Rc (Vec X Y) Z)) (c : ℕ) → ArePieces key ps → 0 < length ps → IsGapAt piece_key ps k c → IsIn key k ps (c - 1)
    piece_of_gap k [] c are l gap = absurd (omega arith)
    piece_of_gap k (p ∷ ps) zero are l gap = in_piece k (p ∷ ps) zero p are.none_empty are.ascending l (λ more. absurd (omega arith)) (λ more. gap.behind 1 p (omega arith) more)
    piece_of_gap k (p ∷ ps) (suc c) are l gap =
        subst (IsIn key k (p ∷ ps)) {x = c} {y = suc c - 1} (omega arith) (in_piece k (p ∷ ps) c p are.none_empty are.ascending (omega (arith, gap.within)) (λ more e. not_both (val_cmp (piece_key (get_or (p ∷ ps) c p)) k) (gap.before c p (omega arith) (omega arith)) e) (λ more. gap.behind (suc c) p (omega arith) more))
      where
        not_both : (o : Ordering) → o ≡ Less → o ≡ Greater → ⊥
        not_both o e f = let q : Less ≡ Greater = sym e ∙ f in cc

    -- a change of that piece alone
    pub found_in : (k : Val) (ps : List (Rc (Vec X Y) Z)) (c : ℕ) (d : Rc (Vec X Y) Z) → IsIn key k ps c → found key k (all_in ps) ≡ found key k (get_or ps c d).value.items
    found_in k [] c d h = absurd h
    found_in k (p ∷ ps) zero d h = found_above k p.value.items (all_in ps) h
    found_in k (p ∷ ps) (suc c) d h = found_below k p.value.items (all_in ps) h.0 ∙ found_in k ps c d h.1

    pub with_in : (x : X) (ps : List (Rc (Vec X Y) Z)) (c : ℕ) (d q : Rc (Vec X Y) Z) → IsIn key (key x) ps c → q.value.items ≡ with_key key x (get_or ps c d).value.items → all_in (set ps c q) ≡ with_key key x (all_in ps)
    with_in x [] c d q h e = absurd h
    with_in x (p ∷ ps) zero d q h e = ap (λ l. l ++ all_in ps) e ∙ sym (with_above x p.value.items (all_in ps) h)
    with_in x (p ∷ ps) (suc c) d q h e = ap (λ l. p.value.items ++ l) (with_in x ps c d q h.1 e) ∙ sym (with_below x p.value.items (all_in ps) h.0)

    pub without_in : (k : Val) (ps : List (Rc (Vec X Y) Z)) (c : ℕ) (d q : Rc (Vec X Y) Z) → IsIn key k ps c → q.value.items ≡ without key k (get_or ps c d).value.items → all_in (set ps c q) ≡ without key k (all_in ps)
    without_in k [] c d q h e = absurd h
    without_in k (p ∷ ps) zero d q h e = ap (λ l. l ++ all_in ps) e ∙ sym (without_above k p.value.items (all_in ps) h)
    without_in k (p ∷ ps) (suc c) d q h e = ap (λ l. p.value.items ++ l) (without_in k ps c d q h.1 e) ∙ sym (without_below k p.value.items (all_in ps) h.0)

    pub like_in : (a k : Val) (ps : List (Rc (Vec X Y) Z)) (c : ℕ) → val_cmp k a ≡ Equal → IsIn key k ps c → IsIn key a ps c
    like_in a k [] c e h = h
    like_in a k (p ∷ ps) zero e h = below_same k a (all_in ps) e h
    like_in a k (p ∷ ps) (suc c) e h = (above_same k a p.value.items e h.0, like_in a k ps c e h.1)

    -- a piece that is lent or changed
    pub lent : (ps : List (Rc (Vec X Y) Z)) (c : ℕ) (p : Rc (Vec X Y) Z) (v : Vec X Y) (xs : List X) → p ≡ get_or ps c p → v ≡ p.value → xs ≡ v.items → xs ≡ (get_or ps c p).value.items
    lent ps c p v xs is same items = items ∙ ap (λ u. u.items) same ∙ ap (λ q. q.value.items) is

    pub lent_ascends : (ps : List (Rc (Vec X Y) Z)) (c : ℕ) (p : Rc (Vec X Y) Z) (xs : List X) → IsAscending key (all_in ps) → c < length ps → xs ≡ (get_or ps c p).value.items → IsAscending key xs
    lent_ascends ps c p xs h l e = subst (IsAscending key) (sym e) (piece_ascends ps c p h l)

    pub found_lent : (k : Val) (ps : List (Rc (Vec X Y) Z)) (c : ℕ) (p : Rc (Vec X Y) Z) (xs : List X) → IsIn key k ps c → xs ≡ (get_or ps c p).value.items → found key k xs ≡ found key k (all_in ps)
    found_lent k ps c p xs h e = ap (found key k) e ∙ sym (found_in k ps c p h)

    pub put_ok : {A E : Type 0} (r : Result A E) (x : X) (ps : List (Rc (Vec X Y) Z)) (c : ℕ) (p q : Rc (Vec X Y) Z) → p ≡ get_or ps c p → IsIn key (key x) ps c → OnOk r (q.value.items ≡ with_key key x p.value.items) → OnOk r (all_in (set ps c q) ≡ with_key key x (all_in ps))
    put_ok (Ok a) x ps c p q is h e = with_in x ps c p q h (e ∙ ap (λ o. with_key key x o.value.items) is)
    put_ok (Err a) x ps c p q is h e = tt

    pub put_some : {A E : Type 0} (r : Result A E) (x : X) (ps : List (Rc (Vec X Y) Z)) (c : ℕ) (p q : Rc (Vec X Y) Z) → p ≡ get_or ps c p → c < length ps → NoneEmpty ps → OnOk r (q.value.items ≡ with_key key x p.value.items) → OnErr r (q.value.items ≡ p.value.items) → NoneEmpty (set ps c q)
    put_some (Ok a) x ps c p q is l n e f = none_with ps c q n (subst (λ xs. 0 < length xs) (sym e) (with_some x p.value.items))
    put_some (Err a) x ps c p q is l n e f = none_with ps c q n (subst (λ xs. 0 < length xs) (sym (f ∙ ap (λ o. o.value.items) is)) (none_at ps c p n l))

    pub take_ok : {A E : Type 0} (r : Result A E) (k : Val) (ps : List (Rc (Vec X Y) Z)) (c : ℕ) (p q : Rc (Vec X Y) Z) → p ≡ get_or ps c p → IsIn key k ps c → OnOk r (q.value.items ≡ without key k p.value.items) → OnOk r (all_in (set ps c q) ≡ without key k (all_in ps))
    take_ok (Ok a) k ps c p q is h e = without_in k ps c p q h (e ∙ ap (λ o. without key k o.value.items) is)
    take_ok (Err a) k ps c p q is h e = tt

grew_by : (b : Bool) (m n i j k : ℕ) → m + k ≡ n + j → i ≡ k → j ≡ (if b then suc i else i) → m ≡ (if b then suc n else n)
grew_by true m n i j k s t e = omega (arith, s, t, e)
grew_by false m n i j k s t e = omega (arith, s, t, e)

shrank_by : (b : Bool) (m n i j k : ℕ) → m + k ≡ n + j → i ≡ k → i ≡ (if b then suc j else j) → n ≡ (if b then suc m else m)
shrank_by true m n i j k s t e = omega (arith, s, t, e)
shrank_by false m n i j k s t e = omega (arith, s, t, e)

module _ {X Y Z : Type 0} where
  pub change_err : {A E : Type 0} (r : Result A E) (ps : List (Rc (Vec X Y) Z)) (c : ℕ) (p q : Rc (Vec X Y) Z) → p ≡ get_or ps c p → c < length ps → OnErr r (q.value.items ≡ p.value.items) → OnErr r (all_in (set ps c q) ≡ all_in ps)
  change_err (Ok a) ps c p q is l e = tt
  change_err (Err a) ps c p q is l e = same_in ps c p q l (e ∙ ap (λ o. o.value.items) is)

  pub grew : {E : Type 0} (r : Result Bool E) (ps : List (Rc (Vec X Y) Z)) (c : ℕ) (p q : Rc (Vec X Y) Z) → p ≡ get_or ps c p → c < length ps → IfOk r (λ new. length q.value.items ≡ (if new then suc (length p.value.items) else length p.value.items)) → IfOk r (λ new. length (all_in (set ps c q)) ≡ (if new then suc (length (all_in ps)) else length (all_in ps)))
  grew (Ok b) ps c p q is l e = grew_by b (length (all_in (set ps c q))) (length (all_in ps)) (length p.value.items) (length q.value.items) (length (get_or ps c p).value.items) (length_in ps c p q l) (ap (λ o. length o.value.items) is) e
  grew (Err a) ps c p q is l e = tt

  pub shrank : {E : Type 0} (r : Result Bool E) (ps : List (Rc (Vec X Y) Z)) (c : ℕ) (p q : Rc (Vec X Y) Z) → p ≡ get_or ps c p → c < length ps → IfOk r (λ took. length p.value.items ≡ (if took then suc (length q.value.items) else length q.value.items)) → IfOk r (λ took. length (all_in ps) ≡ (if took then suc (length (all_in (set ps c q))) else length (all_in (set ps c q))))
  shrank (Ok b) ps c p q is l e = shrank_by b (length (all_in (set ps c q))) (length (all_in ps)) (length p.value.items) (length q.value.items) (length (get_or ps c p).value.items) (length_in ps c p q l) (ap (λ o. length o.value.items) is) e
  shrank (Err a) ps c p q is l e = tt

  pub as_long : (ps : List (Rc (Vec X Y) Z)) (c : ℕ) (p q : Rc (Vec X Y) Z) → p ≡ get_or ps c p → c < length ps → length q.value.items ≡ length p.value.items → length (all_in (set ps c q)) ≡ length (all_in ps)
  as_long ps c p q is l e = omega (arith, length_in ps c p q l, ap (λ o. length o.value.items) is, e)

  pub as_full : (ps : List (Rc (Vec X Y) Z)) (c : ℕ) (p q : Rc (Vec X Y) Z) → p ≡ get_or ps c p → c < length ps → NoneEmpty ps → length q.value.items ≡ length p.value.items → NoneEmpty (set ps c q)
  as_full ps c p q is l n e = none_with ps c q n (omega (arith, none_at ps c p n l, ap (λ o. length o.value.items) is, e))

found_is_by : (k : Val) (e : Val × Val) (es : List (Val × Val)) (o : Ordering) → val_cmp e.0 k ≡ o → IfSome (found entry_key k es) (λ f. val_cmp f.0 k ≡ Equal) → IfSome (match_ordering o (found entry_key k es) (Some e) (found entry_key k es)) (λ f. val_cmp f.0 k ≡ Equal)
found_is_by k e es Less s h = h
found_is_by k e es Equal s h = s
found_is_by k e es Greater s h = h

found_is : (k : Val) (es : List (Val × Val)) → IfSome (found entry_key k es) (λ f. val_cmp f.0 k ≡ Equal)
found_is k [] = tt
found_is k (e ∷ es) = found_is_by k e es (val_cmp e.0 k) refl (found_is k es)

module _ {Y Z : Type 0} where
  swapped_by : (k v : Val) (ps : List (Rc (Vec (Val × Val) Y) Z)) (c : ℕ) (p q : Rc (Vec (Val × Val) Y) Z) (o : Option (Val × Val)) → p ≡ get_or ps c p → c < length ps → IsIn entry_key k ps c
      → IfSome o (λ f. val_cmp f.0 k ≡ Equal) → q.value.items ≡ option_map_or (λ e. with_key entry_key (e.0, v) p.value.items) o p.value.items
      → all_in (set ps c q) ≡ option_map_or (λ e. with_key entry_key (e.0, v) (all_in ps)) o (all_in ps)
  swapped_by k v ps c p q None is l h s e = same_in ps c p q l (e ∙ ap (λ o. o.value.items) is)
  swapped_by k v ps c p q (Some f) is l h s e =
      with_in entry_key (f.0, v) ps c p q (like_in entry_key f.0 k ps c (val_cmp_total.antisymm k f.0 ∙ ap ordering_reverse s) h) (e ∙ ap (λ o. with_key entry_key (f.0, v) o.value.items) is)

  found_old : (k : Val) (ps : List (Rc (Vec (Val × Val) Y) Z)) (c : ℕ) (p : Rc (Vec (Val × Val) Y) Z) → p ≡ get_or ps c p → IsIn entry_key k ps c → found entry_key k p.value.items ≡ found entry_key k (all_in ps)
  found_old k ps c p is h = found_lent entry_key k ps c p p.value.items h (ap (λ o. o.value.items) is)

  pub swap_ok : {A E : Type 0} (r : Result A E) (k v : Val) (ps : List (Rc (Vec (Val × Val) Y) Z)) (c : ℕ) (p q : Rc (Vec (Val × Val) Y) Z) → p ≡ get_or ps c p → c < length ps → IsIn entry_key k ps c
      → OnOk r (q.value.items ≡ with_value_in p.value.items k v) → OnOk r (all_in (set ps c q) ≡ with_value_in (all_in ps) k v)
  swap_ok (Ok a) k v ps c p q is l h e =
      subst (λ o. all_in (set ps c q) ≡ option_map_or (λ f. with_key entry_key (f.0, v) (all_in ps)) o (all_in ps)) (found_old k ps c p is h)
      (swapped_by k v ps c p q (found entry_key k p.value.items) is l h (found_is k p.value.items) e)
  swap_ok (Err a) k v ps c p q is l h e = tt

  pub swap_there : {E : Type 0} (r : Result Bool E) (k : Val) (ps : List (Rc (Vec (Val × Val) Y) Z)) (c : ℕ) (p : Rc (Vec (Val × Val) Y) Z) → p ≡ get_or ps c p → IsIn entry_key k ps c
      → IfOk r (λ there. there ≡ is_some (found entry_key k p.value.items)) → IfOk r (λ there. there ≡ is_some (found entry_key k (all_in ps)))
  swap_there r k ps c p is h e = subst (λ o. IfOk r (λ there. there ≡ is_some o)) (found_old k ps c p is h) e

  pub swap_taken : {A E : Type 0} (r : Result A E) (k x d : Val) (ps : List (Rc (Vec (Val × Val) Y) Z)) (c : ℕ) (p : Rc (Vec (Val × Val) Y) Z) → p ≡ get_or ps c p → IsIn entry_key k ps c
      → OnOk r (x ≡ unwrap_or (option_map (λ (e : Val × Val). e.1) (found entry_key k p.value.items)) d) → OnOk r (x ≡ unwrap_or (option_map (λ (e : Val × Val). e.1) (found entry_key k (all_in ps))) d)
  swap_taken r k x d ps c p is h e = subst (λ o. OnOk r (x ≡ unwrap_or (option_map (λ (e : Val × Val). e.1) o) d)) (found_old k ps c p is h) e

-- a list that ascends goes on to do so
module _ {X A E : Type 0} (key : X → Val) where
  pub after_put : (r : Result A E) (x : X) (old mid new : List X) → IsAscending key old → mid ≡ old → OnOk r (new ≡ with_key key x mid) → OnErr r (new ≡ mid) → IsAscending key new
  after_put (Ok a) x old mid new h m e f = subst (IsAscending key) (sym (e ∙ ap (with_key key x) m)) (ascending_with key x old h)
  after_put (Err a) x old mid new h m e f = subst (IsAscending key) (sym (f ∙ m)) h

  pub after_take : (r : Result A E) (k : Val) (old mid new : List X) → IsAscending key old → mid ≡ old → OnOk r (new ≡ without key k mid) → OnErr r (new ≡ mid) → IsAscending key new
  after_take (Ok a) k old mid new h m e f = subst (IsAscending key) (sym (e ∙ ap (without key k) m)) (ascending_without key k old h)
  after_take (Err a) k old mid new h m e f = subst (IsAscending key) (sym (f ∙ m)) h

pub after_swap : {A E : Type 0} (r : Result A E) (k v : Val) (old mid new : List (Val × Val)) → IsAscending entry_key old → mid ≡ old → OnOk r (new ≡ with_value_in mid k v) → OnErr r (new ≡ mid) → IsAscending entry_key new
after_swap (Ok a) k v old mid new h m e f = subst (IsAscending entry_key) (sym (e ∙ ap (λ es. with_value_in es k v) m)) (ascending_with_value k v old h)
after_swap (Err a) k v old mid new h m e f = subst (IsAscending entry_key) (sym (f ∙ m)) h
