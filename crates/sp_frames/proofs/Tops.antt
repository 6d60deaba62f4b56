-- The top of a stack that is kept with its top last.
use Rattle.std.proofs.Common.{◌≡◌, ℕ, ◌+◌, ◌-◌, ◌<◌, ◌≤◌, List, [], ◌∷◌, ◌++◌, length, get_or, take, drop, reverse, refl, sym, ap, ◌∙◌, arith}
use Rattle.std.specs.List.{slice_rotate_right}
use Rattle.std.proofs.lemmas.List.{reverse-append, reverse-reverse, length-reverse, take-append-drop, length-append, append_assoc, length-drop, length-take-le, drop-take, take_at, drop_at, take_all, take_more, drop_more}
use Rattle.std.proofs.Math.Seq.{take-append_seam, drop-append_seam}
use borrow.Rule.Slice.PartMut.{mid_of, put_mid}
use Rattle.sp_code.specs.Machine.{under}

module _ {A : Type 0} where
  pub tops : (n : ℕ) (xs : List A) → n ≤ length xs → (drop (length xs - n) xs ≡ reverse (take n (reverse xs))) × (reverse (take (length xs - n) xs) ≡ drop n (reverse xs))
  tops n xs h =
      let a = take (length xs - n) xs in
      let b = drop (length xs - n) xs in
      let e : reverse xs ≡ reverse b ++ reverse a = ap reverse (sym (take-append-drop (length xs - n) xs)) ∙ reverse-append a b in
      let l : length (reverse b) ≡ n = omega (arith, length-reverse b, length-drop (length xs - n) xs) in (
        sym (ap (λ z. reverse (take n z)) e ∙ ap (λ k. reverse (take k (reverse b ++ reverse a))) (sym l) ∙ ap reverse (take-append_seam (reverse b) (reverse a)) ∙ reverse-reverse b),
        sym (ap (drop n) e ∙ ap (λ k. drop k (reverse b ++ reverse a)) (sym l) ∙ drop-append_seam (reverse b) (reverse a)),
      )

  pub top_taken : (n len : ℕ) (xs ys zs : List A) → reverse xs ≡ ys → len ≡ length xs → n ≤ length ys → zs ≡ drop (len - n) xs → zs ≡ reverse (take n ys)
  top_taken n len xs ys zs e f h g =
      let l : n ≤ length xs = omega (arith, length-reverse xs, ap length e, h) in
      g ∙ ap (λ k. drop (k - n) xs) f ∙ (tops n xs l).0 ∙ ap (λ l. reverse (take n l)) e

  -- what is left is kept in so many slots
  pub top_left : (n h : ℕ) (xs ys zs : List A) → reverse xs ≡ ys → h ≡ length xs → n ≤ length ys → zs ≡ take (h - n) xs → reverse (take (h - n) zs) ≡ drop n ys
  top_left n h xs ys zs e f l g =
      let fewer : n ≤ length xs = omega (arith, length-reverse xs, ap length e, l) in
      let all : take (h - n) zs ≡ zs = take_all (h - n) zs (omega (arith, ap length g, length-take-le (h - n) xs (omega (arith, f)))) in
      ap reverse (all ∙ g ∙ ap (λ k. take (k - n) xs) f) ∙ (tops n xs fewer).1 ∙ ap (drop n) e

  -- the first h slots are those of a stack
  pub first_slots : (h : ℕ) (xs : List A) → h ≤ length xs → h ≡ length (take h xs)
  first_slots h xs l = sym (length-take-le h xs l)

  pub top_lent : (n h : ℕ) (xs lent ys : List A) → lent ≡ xs → reverse (take h xs) ≡ ys → h ≤ length xs → n ≤ length ys → take (h - (h - n)) (drop (h - n) lent) ≡ reverse (take n ys)
  top_lent n h xs lent ys same e l g =
      let whole : (h - n) + (h - (h - n)) ≡ h = omega arith in
      ap (λ zs. take (h - (h - n)) (drop (h - n) zs)) same ∙ sym (drop-take (h - n) (h - (h - n)) xs) ∙ ap (λ k. drop (h - n) (take k xs)) whole
      ∙ top_taken n h (take h xs) ys (drop (h - n) (take h xs)) e (first_slots h xs l) g refl

  -- one more is taken off a stack of which k were taken, whose top is x
  above : (k : ℕ) (xs ys rest : List A) (x : A) → k < length xs → ys ≡ drop k xs → ys ≡ x ∷ rest → get_or xs k x ∷ drop (k + 1) xs ≡ x ∷ rest
  above k xs ys rest x h e f = sym (drop_more xs k x h) ∙ sym e ∙ f

  pub one_taken : (k : ℕ) (xs ys rest taken : List A) (x : A) → k < length xs → ys ≡ drop k xs → ys ≡ x ∷ rest → taken ≡ take k xs → taken ++ x ∷ [] ≡ take (k + 1) xs
  one_taken k xs ys rest taken x h e f g =
      let both = above k xs ys rest x h e f in
      let top : get_or xs k x ≡ x = cc in
      sym (take_more xs k x h ∙ ap (λ y. take k xs ++ y ∷ []) top ∙ ap (λ l. l ++ x ∷ []) (sym g))

  pub one_left : (k : ℕ) (xs ys rest : List A) (x : A) → k < length xs → ys ≡ drop k xs → ys ≡ x ∷ rest → rest ≡ drop (k + 1) xs
  one_left k xs ys rest x h e f =
      let both = above k xs ys rest x h e f in
      let left : drop (k + 1) xs ≡ rest = cc in
      sym left

  pub some_left : (k n : ℕ) (xs ys : List A) → k < n → n ≤ length xs → ys ≡ drop k xs → 0 < length ys
  some_left k n xs ys h g e = omega (arith, length-drop k xs, ap length e, h, g)

  -- what a part with its last member turned to its front is, and what stands before it and behind it
  part_turned : (a k : ℕ) (front part behind xs ys : List A) (r : A) → xs ≡ front ++ (part ++ r ∷ behind) → a ≡ length front → k ≡ length part + 1 → ys ≡ slice_rotate_right (mid_of a k xs) 1
      → put_mid a k xs ys ≡ front ++ (r ∷ (part ++ behind))
  part_turned a k front part behind xs ys r is at long turned =
      let part_r = part ++ r ∷ [] in
      let counted : length part_r ≡ k = omega (arith, length-append part (r ∷ []), long) in
      let before : take a xs ≡ front = ap (take a) is ∙ take_at front (part ++ r ∷ behind) a (sym at) in
      let rest : drop a xs ≡ part_r ++ behind = ap (drop a) is ∙ drop_at front (part ++ r ∷ behind) a (sym at) ∙ sym (append_assoc part (r ∷ []) behind) in
      let mid : take k (drop a xs) ≡ part_r = ap (take k) rest ∙ take_at part_r behind k counted in
      let after : drop k (drop a xs) ≡ behind = ap (drop k) rest ∙ drop_at part_r behind k counted in
      let one_less : length part ≡ length part_r - 1 = omega (arith, length-append part (r ∷ [])) in
      let new : ys ≡ r ∷ part = turned ∙ ap (λ l. slice_rotate_right l 1) mid ∙ ap (λ l. l ++ take (length part_r - 1) part_r) (drop_at part (r ∷ []) (length part_r - 1) one_less) ∙ ap (λ l. r ∷ l) (take_at part (r ∷ []) (length part_r - 1) one_less) in
      ap (λ l. l ++ (ys ++ drop k (drop a xs))) before ∙ ap (λ l. front ++ (l ++ drop k (drop a xs))) new ∙ ap (λ l. front ++ (r ∷ (part ++ l))) after

  pub part_put : (a k : ℕ) (xs ys : List A) → length ys ≡ length (mid_of a k xs) → length (put_mid a k xs ys) ≡ length xs
  part_put a k xs ys same =
      let rest = drop a xs in
      omega (
        arith,
        same,
        length-append (take a xs) (ys ++ drop k rest),
        length-append ys (drop k rest),
        length-append (take k rest) (drop k rest),
        ap length (take-append-drop k rest),
        length-append (take a xs) rest,
        ap length (take-append-drop a xs),
      )

  -- two values on others that end with the first
  pub two_reversed : (y r : A) (ps qs : List A) → reverse ((y ∷ r ∷ ps) ++ qs) ≡ reverse qs ++ (reverse ps ++ r ∷ y ∷ [])
  two_reversed y r ps qs = reverse-append (y ∷ r ∷ ps) qs ∙ ap (λ l. reverse qs ++ l) (reverse-append (y ∷ r ∷ []) ps)

  pub put_under : (n h : ℕ) (xs ys lent vs : List A) → lent ≡ xs → reverse (take h xs) ≡ vs → h ≤ length xs → n + 1 < length vs
      → ys ≡ slice_rotate_right (mid_of (h - 1 - n - 1) (h - 1 - (h - 1 - n - 1)) lent) 1
      → reverse (take h (put_mid (h - 1 - n - 1) (h - 1 - (h - 1 - n - 1)) lent ys)) ≡ under n vs
  put_under n h xs ys lent [] same e l g turned = absurd (omega (arith, g))
  put_under n h xs ys lent (y ∷ []) same e l g turned = absurd (omega (arith, g))
  put_under n h xs ys lent (y ∷ r ∷ ws) same e l g turned =
      let ps = take n ws in
      let qs = drop n ws in
      let a = h - 1 - n - 1 in
      let k = h - 1 - a in
      let stack : take h xs ≡ reverse qs ++ (reverse ps ++ r ∷ y ∷ []) = sym (reverse-reverse (take h xs)) ∙ ap reverse (e ∙ ap (λ l. y ∷ r ∷ l) (sym (take-append-drop n ws))) ∙ two_reversed y r ps qs in
      let high : h ≡ length ws + 2 = omega (arith, length-take-le h xs l, length-reverse (take h xs), ap length e) in
      let few : length ps ≡ n = length-take-le n ws (omega (arith, g)) in
      let many : length qs ≡ length ws - n = length-drop n ws in
      let behind = y ∷ drop h xs in
      let whole : lent ≡ reverse qs ++ (reverse ps ++ r ∷ behind) = same ∙ sym (take-append-drop h xs) ∙ ap (λ l. l ++ drop h xs) stack ∙ append_assoc (reverse qs) (reverse ps ++ r ∷ y ∷ []) (drop h xs) ∙ ap (λ l. reverse qs ++ l) (append_assoc (reverse ps) (r ∷ y ∷ []) (drop h xs)) in
      let at : a ≡ length (reverse qs) = omega (arith, length-reverse qs, many, high, g) in
      let long : k ≡ length (reverse ps) + 1 = omega (arith, length-reverse ps, few, high, g) in
      let now : put_mid a k lent ys ≡ (reverse qs ++ (r ∷ (reverse ps ++ y ∷ []))) ++ drop h xs
      = part_turned a k (reverse qs) (reverse ps) behind lent ys r whole at long turned ∙ ap (λ l. reverse qs ++ (r ∷ l)) (sym (append_assoc (reverse ps) (y ∷ []) (drop h xs))) ∙ sym (append_assoc (reverse qs) (r ∷ (reverse ps ++ y ∷ [])) (drop h xs)) in
      let top : length (reverse qs ++ (r ∷ (reverse ps ++ y ∷ []))) ≡ h
      = omega (arith, length-append (reverse qs) (r ∷ (reverse ps ++ y ∷ [])), length-append (reverse ps) (y ∷ []), length-reverse qs, length-reverse ps, few, many, high, g) in
      let turned_back : reverse (r ∷ (reverse ps ++ y ∷ [])) ≡ y ∷ (ps ++ r ∷ [])
      = reverse-append (r ∷ reverse ps) (y ∷ []) ∙ ap (λ l. y ∷ l) (reverse-append (r ∷ []) (reverse ps) ∙ ap (λ l. l ++ r ∷ []) (reverse-reverse ps)) in
      ap (λ l. reverse (take h l)) now ∙ ap reverse (take_at (reverse qs ++ (r ∷ (reverse ps ++ y ∷ []))) (drop h xs) h top)
      ∙ reverse-append (reverse qs) (r ∷ (reverse ps ++ y ∷ [])) ∙ ap (λ l. l ++ reverse (reverse qs)) turned_back ∙ ap (λ l. y ∷ l) (append_assoc ps (r ∷ []) (reverse (reverse qs)) ∙ ap (λ l. ps ++ r ∷ l) (reverse-reverse qs))
