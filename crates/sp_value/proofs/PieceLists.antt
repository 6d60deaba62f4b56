-- Lists in pieces, whatever they hold: what a change of a piece makes of the list, and its items one by one.
use Rattle.std.proofs.Common.{◌≡◌, ℕ, zero, suc, ◌+◌, ◌<◌, ◌≤◌, List, [], ◌∷◌, ◌++◌, length, drop, get_or, refl, sym, ap, ◌∙◌, subst, arith}
use Rattle.std.proofs.Math.ListN.{set}
use Rattle.std.specs.List.{insert, remove, AllZip, HoldsAt}
use Rattle.std.specs.declared.rc.Rc.{Rc}
use Rattle.std.specs.declared.vec.Vec.{Vec}
use Rattle.sp_value.specs.Pieces.{all_in, NoneEmpty, NoneEmptyBut, rest_in}

assoc : {X : Type 0} (xs ys zs : List X) → xs ++ (ys ++ zs) ≡ (xs ++ ys) ++ zs
assoc [] ys zs = refl
assoc (x ∷ xs) ys zs = ap (λ l. x ∷ l) (assoc xs ys zs)

length_both : {X : Type 0} (xs ys : List X) → length (xs ++ ys) ≡ length xs + length ys
length_both [] ys = omega arith
length_both (x ∷ xs) ys = omega (arith, length_both xs ys)

drop_at : {X : Type 0} (xs : List X) (i : ℕ) (d : X) → i < length xs → drop i xs ≡ get_or xs i d ∷ drop (suc i) xs
drop_at [] i d h = absurd (omega arith)
drop_at (x ∷ xs) zero d h = refl
drop_at (x ∷ xs) (suc i) d h = drop_at xs i d (omega arith)

drop_over : {X : Type 0} (xs : List X) (i : ℕ) → length xs ≤ i → drop i xs ≡ []
drop_over [] zero h = refl
drop_over [] (suc i) h = refl
drop_over (x ∷ xs) zero h = absurd (omega arith)
drop_over (x ∷ xs) (suc i) h = drop_over xs i (omega arith)

empty_list : {A : Type 0} (xs : List A) → length xs ≡ 0 → xs ≡ []
empty_list [] h = refl
empty_list (x ∷ xs) h = absurd (omega arith)

module _ {X Y Z : Type 0} where
  pub same_in : (ps : List (Rc (Vec X Y) Z)) (c : ℕ) (d q : Rc (Vec X Y) Z) → c < length ps → q.value.items ≡ (get_or ps c d).value.items → all_in (set ps c q) ≡ all_in ps
  same_in [] c d q h e = absurd (omega arith)
  same_in (p ∷ ps) zero d q h e = ap (λ l. l ++ all_in ps) e
  same_in (p ∷ ps) (suc c) d q h e = ap (λ l. p.value.items ++ l) (same_in ps c d q (omega arith) e)

  pub length_in : (ps : List (Rc (Vec X Y) Z)) (c : ℕ) (d q : Rc (Vec X Y) Z) → c < length ps → length (all_in (set ps c q)) + length (get_or ps c d).value.items ≡ length (all_in ps) + length q.value.items
  length_in [] c d q h = absurd (omega arith)
  length_in (p ∷ ps) zero d q h =
      let a = length_both q.value.items (all_in ps) in
      let b = length_both p.value.items (all_in ps) in omega arith
  length_in (p ∷ ps) (suc c) d q h =
      let a = length_both p.value.items (all_in (set ps c q)) in
      let b = length_both p.value.items (all_in ps) in
      let r = length_in ps c d q (omega arith) in omega arith

  pub none_at : (ps : List (Rc (Vec X Y) Z)) (c : ℕ) (d : Rc (Vec X Y) Z) → NoneEmpty ps → c < length ps → 0 < length (get_or ps c d).value.items
  none_at [] c d n h = absurd (omega arith)
  none_at (p ∷ ps) zero d n h = n.0
  none_at (p ∷ ps) (suc c) d n h = none_at ps c d n.1 (omega arith)

  pub none_with : (ps : List (Rc (Vec X Y) Z)) (c : ℕ) (q : Rc (Vec X Y) Z) → NoneEmpty ps → 0 < length q.value.items → NoneEmpty (set ps c q)
  none_with [] c q n h = tt
  none_with (p ∷ ps) zero q n h = (h, n.1)
  none_with (p ∷ ps) (suc c) q n h = (n.0, none_with ps c q n.1 h)

  pub none_but : (ps : List (Rc (Vec X Y) Z)) (c : ℕ) (q : Rc (Vec X Y) Z) → NoneEmpty ps → NoneEmptyBut c (set ps c q)
  none_but [] c q n = tt
  none_but (p ∷ ps) zero q n = n.1
  none_but (p ∷ ps) (suc c) q n = (n.0, none_but ps c q n.1)

  pub none_of_but : (ps : List (Rc (Vec X Y) Z)) (c : ℕ) (d : Rc (Vec X Y) Z) → NoneEmptyBut c ps → 0 < length (get_or ps c d).value.items → NoneEmpty ps
  none_of_but [] c d n h = tt
  none_of_but (p ∷ ps) zero d n h = (h, n)
  none_of_but (p ∷ ps) (suc c) d n h = (n.0, none_of_but ps c d n.1 h)

  all_without : (ps : List (Rc (Vec X Y) Z)) (c : ℕ) (d : Rc (Vec X Y) Z) → c < length ps → (get_or ps c d).value.items ≡ [] → all_in (remove ps c) ≡ all_in ps
  all_without [] c d h e = absurd (omega arith)
  all_without (p ∷ ps) zero d h e = ap (λ l. l ++ all_in ps) (sym e)
  all_without (p ∷ ps) (suc c) d h e = ap (λ l. p.value.items ++ l) (all_without ps c d (omega arith) e)

  pub all_without_empty : (ps : List (Rc (Vec X Y) Z)) (c : ℕ) (d : Rc (Vec X Y) Z) → c < length ps → length (get_or ps c d).value.items ≡ 0 → all_in (remove ps c) ≡ all_in ps
  all_without_empty ps c d h e = all_without ps c d h (empty_list (get_or ps c d).value.items e)

  pub none_without : (ps : List (Rc (Vec X Y) Z)) (c : ℕ) → NoneEmptyBut c ps → NoneEmpty (remove ps c)
  none_without [] zero n = tt
  none_without [] (suc c) n = tt
  none_without (p ∷ ps) zero n = n
  none_without (p ∷ ps) (suc c) n = (n.0, none_without ps c n.1)

  pub all_halved : (ps : List (Rc (Vec X Y) Z)) (c : ℕ) (d f b : Rc (Vec X Y) Z) → c < length ps → f.value.items ++ b.value.items ≡ (get_or ps c d).value.items → all_in (set (insert ps (suc c) b) c f) ≡ all_in ps
  all_halved [] c d f b h e = absurd (omega arith)
  all_halved (p ∷ ps) zero d f b h e = assoc f.value.items b.value.items (all_in ps) ∙ ap (λ l. l ++ all_in ps) e
  all_halved (p ∷ ps) (suc c) d f b h e = ap (λ l. p.value.items ++ l) (all_halved ps c d f b (omega arith) e)

  pub none_halved : (ps : List (Rc (Vec X Y) Z)) (c : ℕ) (f b : Rc (Vec X Y) Z) → c < length ps → NoneEmpty ps → 0 < length f.value.items → 0 < length b.value.items → NoneEmpty (set (insert ps (suc c) b) c f)
  none_halved [] c f b h n m k = absurd (omega arith)
  none_halved (p ∷ ps) zero f b h n m k = (m, (k, n.1))
  none_halved (p ∷ ps) (suc c) f b h n m k = (n.0, none_halved ps c f b (omega arith) n.1 m k)

  pub halved_all : (ps new : List (Rc (Vec X Y) Z)) (c : ℕ) (f b : Rc (Vec X Y) Z) → c < length ps → HoldsAt (λ p. f.value.items ++ b.value.items ≡ p.value.items) ps c → new ≡ insert ps (c + 1) b → all_in (set new c f) ≡ all_in ps
  halved_all ps new c f b h at e =
      let e' : new ≡ insert ps (suc c) b = subst (λ j. new ≡ insert ps j b) {x = c + 1} {y = suc c} (omega arith) e in
      ap (λ l. all_in (set l c f)) e' ∙ all_halved ps c f f b h (at f)

  pub halved_none : (ps new : List (Rc (Vec X Y) Z)) (c : ℕ) (f b : Rc (Vec X Y) Z) → c < length ps → new ≡ insert ps (c + 1) b → 0 < length f.value.items → 0 < length b.value.items → NoneEmpty ps → NoneEmpty (set new c f)
  halved_none ps new c f b h e m k n =
      let e' : new ≡ insert ps (suc c) b = subst (λ j. new ≡ insert ps j b) {x = c + 1} {y = suc c} (omega arith) e in
      subst (λ l. NoneEmpty (set l c f)) (sym e') (none_halved ps c f b h n m k)

  -- the items one by one
  pub rest_start : (ps : List (Rc (Vec X Y) Z)) → rest_in ps 0 0 ≡ all_in ps
  rest_start [] = refl
  rest_start (p ∷ ps) = refl

  pub starts : (ps : List (Rc (Vec X Y) Z)) (c i : ℕ) → c ≡ 0 → i ≡ 0 → rest_in ps c i ≡ all_in ps
  starts ps c i e f = ap (λ k. rest_in ps k i) e ∙ ap (λ k. rest_in ps 0 k) f ∙ rest_start ps

  pub rest_here : (ps : List (Rc (Vec X Y) Z)) (c i : ℕ) (p : Rc (Vec X Y) Z) (d : X) → c < length ps → i < length (get_or ps c p).value.items → rest_in ps c i ≡ get_or (get_or ps c p).value.items i d ∷ rest_in ps c (i + 1)
  rest_here [] c i p d h l = absurd (omega arith)
  rest_here (q ∷ ps) zero i p d h l = ap (λ r. r ++ all_in ps) (drop_at q.value.items i d l) ∙ ap (λ j. get_or q.value.items i d ∷ drop j q.value.items ++ all_in ps) (let e : suc i ≡ i + 1 = omega arith in e)
  rest_here (q ∷ ps) (suc c) i p d h l = rest_here ps c i p d (omega arith) l

  pub here : (ps : List (Rc (Vec X Y) Z)) (c i : ℕ) (p : Rc (Vec X Y) Z) (v : Vec X Y) (x : X) → c < length ps → p ≡ get_or ps c p → v ≡ p.value → i < length v.items → x ≡ get_or v.items i x → rest_in ps c i ≡ x ∷ rest_in ps c (i + 1)
  here ps c i p v x h is same l at =
      let e : v ≡ (get_or ps c p).value = same ∙ ap (λ q. q.value) is in
      rest_here ps c i p x h (subst (λ u. i < length u.items) e l) ∙ ap (λ y. y ∷ rest_in ps c (i + 1)) (ap (λ u. get_or u.items i x) (sym e) ∙ sym at)

  pub rest_over : (ps : List (Rc (Vec X Y) Z)) (c i : ℕ) (p : Rc (Vec X Y) Z) → c < length ps → length (get_or ps c p).value.items ≤ i → rest_in ps c i ≡ rest_in ps (suc c) 0
  rest_over [] c i p h l = absurd (omega arith)
  rest_over (q ∷ ps) zero i p h l = ap (λ r. r ++ all_in ps) (drop_over q.value.items i l) ∙ sym (rest_start ps)
  rest_over (q ∷ ps) (suc c) i p h l = rest_over ps c i p (omega arith) l

  pub over : (ps : List (Rc (Vec X Y) Z)) (c i : ℕ) (p : Rc (Vec X Y) Z) (v : Vec X Y) → c < length ps → p ≡ get_or ps c p → v ≡ p.value → length v.items ≤ i → rest_in ps c i ≡ rest_in ps (c + 1) 0
  over ps c i p v h is same l =
      let e : v ≡ (get_or ps c p).value = same ∙ ap (λ q. q.value) is in
      rest_over ps c i p h (subst (λ u. length u.items ≤ i) e l) ∙ ap (λ k. rest_in ps k 0) (let s : suc c ≡ c + 1 = omega arith in s)

  pub some_at : (ps : List (Rc (Vec X Y) Z)) (c : ℕ) (p : Rc (Vec X Y) Z) (v : Vec X Y) → NoneEmpty ps → c < length ps → p ≡ get_or ps c p → v ≡ p.value → 0 < length v.items
  some_at ps c p v n h is same = subst (λ u. 0 < length u.items) (sym (same ∙ ap (λ q. q.value) is)) (none_at ps c p n h)

  pub rest_ended : (ps : List (Rc (Vec X Y) Z)) (c i : ℕ) → length ps ≤ c → rest_in ps c i ≡ []
  rest_ended [] c i h = refl
  rest_ended (p ∷ ps) zero i h = absurd (omega arith)
  rest_ended (p ∷ ps) (suc c) i h = rest_ended ps c i (omega arith)

  -- a copy of the list of pieces
  pub all_cloned : (ps qs : List (Rc (Vec X Y) Z)) → AllZip (λ p q. q.value ≡ p.value) ps qs → all_in qs ≡ all_in ps
  all_cloned [] [] h = refl
  all_cloned [] (q ∷ qs) h = absurd h
  all_cloned (p ∷ ps) [] h = absurd h
  all_cloned (p ∷ ps) (q ∷ qs) h = ap (λ v. v.items ++ all_in qs) h.0 ∙ ap (λ l. p.value.items ++ l) (all_cloned ps qs h.1)

  pub none_cloned : (ps qs : List (Rc (Vec X Y) Z)) → AllZip (λ p q. q.value ≡ p.value) ps qs → NoneEmpty ps → NoneEmpty qs
  none_cloned [] [] h n = tt
  none_cloned [] (q ∷ qs) h n = absurd h
  none_cloned (p ∷ ps) [] h n = absurd h
  none_cloned (p ∷ ps) (q ∷ qs) h n = (subst (λ v. 0 < length v.items) (sym h.0) n.0, none_cloned ps qs h.1 n.1)
