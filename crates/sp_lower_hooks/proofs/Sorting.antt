-- There is one list of the numbers of bodies in order.
use Rattle.std.proofs.Common.{ℕ, ◌≡◌, ◌+◌, ◌≤◌, ◌<◌, Bool, true, false, cond, suc, refl, sym, ap, ◌∙◌, arith, List, [], ◌∷◌, length, map, get_or}
use Rattle.std.specs.Prelude.{if◌then◌else◌, ⊤}
use Rattle.std.specs.List.{sum_by}
use Rattle.std.specs.List.Sorted.{IsPermutation, IsSortedBy}
use Rattle.std.proofs.lemmas.List.Sums.{sum_by-cons}
use Rattle.std.proofs.lemmas.List.Sorted.{sum_by-IsPermutation, length_permutation, sorted_far, IsPermutation-map, ranks_by}
use Rattle.sp_lower_hooks.specs.declared.keys.BodyKey.{BodyKey}
use Rattle.sp_lower_hooks.specs.inside.Turns.{Turn, turn_of, key_number, goes_before, put_turn, sorted, turn_numbers}
use Rattle.sp_lower_hooks.proofs.Ranking.{order_total, weak_order, not_itself, tied, same_number, goes_alike}

-- none of a list goes before one
abbrev NoneBefore : Turn → List Turn → Type 0
NoneBefore y [] = ⊤
NoneBefore y (z ∷ zs) = (goes_before z y ≡ false) × NoneBefore y zs

-- a list in order
abbrev Rises : List Turn → Type 0
Rises [] = ⊤
Rises (y ∷ ys) = NoneBefore y ys × Rises ys

put_behind : (y x : Turn) (zs : List Turn) → goes_before x y ≡ false → NoneBefore y zs → NoneBefore y (put_turn x zs)
put_behind y x [] h all = (h, tt)
put_behind y x (z ∷ zs) h all = by (goes_before x z) (put_behind y x zs h all.1)
  where
    by : (b : Bool) → NoneBefore y (put_turn x zs) → NoneBefore y (if b then x ∷ z ∷ zs else z ∷ put_turn x zs)
    by true rest = (h, all)
    by false rest = (all.0, rest)

earlier : (x y : Turn) (zs : List Turn) → goes_before y x ≡ false → NoneBefore y zs → NoneBefore x zs
earlier x y [] h all = tt
earlier x y (z ∷ zs) h all = (weak_order.chain z y x all.0 h, earlier x y zs h all.1)

put_rises : (x : Turn) (ys : List Turn) → Rises ys → Rises (put_turn x ys)
put_rises x [] up = (tt, tt)
put_rises x (y ∷ ys) up = by (goes_before x y) refl (put_rises x ys up.1)
  where
    by : (b : Bool) → goes_before x y ≡ b → Rises (put_turn x ys) → Rises (if b then x ∷ y ∷ ys else y ∷ put_turn x ys)
    by true e rest = (let back = weak_order.one_way x y e in ((back, earlier x y ys back up.0), up))
    by false e rest = (put_behind y x ys e up.0, rest)

sorted_rises : (xs : List Turn) → Rises (sorted xs)
sorted_rises [] = tt
sorted_rises (x ∷ xs) = put_rises x (sorted xs) (sorted_rises xs)

put_sum : (f : Turn → ℕ) (x : Turn) (ys : List Turn) → sum_by f (put_turn x ys) ≡ f x + sum_by f ys
put_sum f x [] = sum_by-cons f x []
put_sum f x (y ∷ ys) = by (goes_before x y) (put_sum f x ys)
  where
    by : (b : Bool) → sum_by f (put_turn x ys) ≡ f x + sum_by f ys → sum_by f (if b then x ∷ y ∷ ys else y ∷ put_turn x ys) ≡ f x + sum_by f (y ∷ ys)
    by true e = sum_by-cons f x (y ∷ ys)
    by false e = omega (arith, sum_by-cons f y (put_turn x ys), sum_by-cons f y ys, e)

sorted_sum : (f : Turn → ℕ) (xs : List Turn) → sum_by f (sorted xs) ≡ sum_by f xs
sorted_sum f [] = refl
sorted_sum f (x ∷ xs) = omega (arith, put_sum f x (sorted xs), sorted_sum f xs, sum_by-cons f x xs)

put_long : (x : Turn) (ys : List Turn) → length (put_turn x ys) ≡ suc (length ys)
put_long x [] = refl
put_long x (y ∷ ys) = by (goes_before x y) (put_long x ys)
  where
    by : (b : Bool) → length (put_turn x ys) ≡ suc (length ys) → length (if b then x ∷ y ∷ ys else y ∷ put_turn x ys) ≡ suc (suc (length ys))
    by true e = refl
    by false e = ap suc e

sorted_long : (xs : List Turn) → length (sorted xs) ≡ length xs
sorted_long [] = refl
sorted_long (x ∷ xs) = put_long x (sorted xs) ∙ ap suc (sorted_long xs)

-- how many of a list go before one
abbrev before : Turn → List Turn → ℕ
before w xs = sum_by (λ z. cond (goes_before z w) 1 0) xs

before_more : (w x : Turn) (xs : List Turn) → before w (x ∷ xs) ≡ cond (goes_before x w) 1 0 + before w xs
before_more w x xs = sum_by-cons (λ z. cond (goes_before z w) 1 0) x xs

none_before : (w : Turn) (xs : List Turn) → NoneBefore w xs → before w xs ≡ 0
none_before w [] h = refl
none_before w (x ∷ xs) h =
    let rest : before w xs ≡ 0 = none_before w xs h.1 in
    let none : 0 + before w xs ≡ 0 = omega (arith, rest) in
    before_more w x xs ∙ ap (λ b. cond b 1 0 + before w xs) h.0 ∙ none

first_not : (b : Bool) (n : ℕ) → cond b 1 0 + n ≡ 0 → b ≡ false
first_not true n e = absurd (let z : 1 + n ≡ 0 = e in omega (arith, z))
first_not false n e = refl

-- the first of one list doesn't go behind that of another
not_behind : (x y : Turn) (xs ys : List Turn) → Rises (y ∷ ys) → ((w : Turn) → before w (x ∷ xs) ≡ before w (y ∷ ys)) → goes_before x y ≡ false
not_behind x y xs ys up same =
    let none = none_before y (y ∷ ys) (not_itself y, up.0) in
    first_not (goes_before x y) (before y xs) (sym (before_more y x xs) ∙ same y ∙ none)

cancelled : (b c : Bool) (m n : ℕ) → b ≡ c → cond b 1 0 + m ≡ cond c 1 0 + n → m ≡ n
cancelled true true m n e h = (let z : 1 + m ≡ 1 + n = h in omega (arith, z))
cancelled false false m n e h = (let z : 0 + m ≡ 0 + n = h in omega (arith, z))
cancelled true false m n e h = absurd (let z : true ≡ false = e in cc)
cancelled false true m n e h = absurd (let z : false ≡ true = e in cc)

same_lists : (xs ys : List Turn) → length xs ≡ length ys → ((w : Turn) → before w xs ≡ before w ys) → Rises xs → Rises ys → turn_numbers xs ≡ turn_numbers ys
same_lists [] [] long same up₁ up₂ = refl
same_lists [] (y ∷ ys) long same up₁ up₂ = absurd (let z : 0 ≡ suc (length ys) = long in omega (arith, z))
same_lists (x ∷ xs) [] long same up₁ up₂ = absurd (let z : suc (length xs) ≡ 0 = long in omega (arith, z))
same_lists (x ∷ xs) (y ∷ ys) long same up₁ up₂ =
    let tie = tied x y (not_behind x y xs ys up₂ same) (not_behind y x ys xs up₁ (λ w. sym (same w))) in
    let first = same_number x y tie in
    let left : (w : Turn) → before w xs ≡ before w ys =
    λ w. cancelled (goes_before x w) (goes_before y w) (before w xs) (before w ys) (goes_alike x y w tie) (sym (before_more w x xs) ∙ same w ∙ before_more w y ys) in
    let rest = same_lists xs ys (let z : suc (length xs) ≡ suc (length ys) = long in omega (arith, z)) left up₁.1 up₂.1 in
    ap (λ n. n ∷ turn_numbers xs) first ∙ ap (λ l. y.number ∷ l) rest

-- a list that was sorted, by what each of it says
none_of : {X : Type 0} (t : X → Turn) (y : Turn) (zs : List X) → ((j : ℕ) (d : X) → j < length zs → goes_before (t (get_or zs j d)) y ≡ false) → NoneBefore y (map t zs)
none_of t y [] far = tt
none_of t y (z ∷ zs) far = (far 0 z (omega arith), none_of t y zs (λ j d less. far (suc j) d (omega (arith, less))))

rises_by : {X : Type 0} (t : X → Turn) (xs : List X) → ((i j : ℕ) (d : X) → i ≤ j → j < length xs → goes_before (t (get_or xs j d)) (t (get_or xs i d)) ≡ false) → Rises (map t xs)
rises_by t [] far = tt
rises_by t (x ∷ xs) far =
    (none_of t (t x) xs (λ j d less. far 0 (suc j) d (omega arith) (omega (arith, less))), rises_by t xs (λ i j d le less. far (suc i) (suc j) d (omega (arith, le)) (omega (arith, less))))

length_turns : {X : Type 0} (t : X → Turn) (xs : List X) → length (map t xs) ≡ length xs
length_turns t [] = refl
length_turns t (x ∷ xs) = ap suc (length_turns t xs)

numbers_told : (ks : List BodyKey) → map key_number ks ≡ turn_numbers (map turn_of ks)
numbers_told [] = refl
numbers_told (k ∷ ks) = ap (λ l. key_number k ∷ l) (numbers_told ks)

-- what a sort makes of keys
pub sorted_keys : (ks js : List BodyKey) → IsPermutation ks js → IsSortedBy (λ x y. goes_before (turn_of x) (turn_of y)) js → map key_number js ≡ turn_numbers (sorted (map turn_of ks))
sorted_keys ks js moves up =
    let all = map turn_of ks in
    let far = sorted_far (λ x y. goes_before (turn_of x) (turn_of y)) (ranks_by order_total turn_of) js up in
    let long : length (map turn_of js) ≡ length (sorted all) = length_turns turn_of js ∙ length_permutation ks js moves ∙ sym (length_turns turn_of ks) ∙ sym (sorted_long all) in
    let same : (w : Turn) → before w (map turn_of js) ≡ before w (sorted all) =
    λ w. sum_by-IsPermutation (λ z. cond (goes_before z w) 1 0) all (map turn_of js) (IsPermutation-map turn_of ks js moves) ∙ sym (sorted_sum (λ z. cond (goes_before z w) 1 0) all) in
    numbers_told js ∙ same_lists (map turn_of js) (sorted all) long same (rises_by turn_of js far) (sorted_rises all)
