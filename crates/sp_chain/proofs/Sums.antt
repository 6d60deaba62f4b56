-- Sums over slots of which one has changed.
use Rattle.std.proofs.Common.{◌≡◌, ◌≢◌, ℕ, zero, suc, ◌+◌, ◌≤◌, List, [], ◌∷◌, get_or, map, sum_by, refl, arith}
use Rattle.std.proofs.lemmas.List.Sums.{sum_by-cons}

module _ {X : Type 0} (w : X → ℕ) (d : X) (z : w d ≡ 0) where
  pub sum_same : (xs ys : List X) → ((k : ℕ) → w (get_or ys k d) ≡ w (get_or xs k d)) → sum_by w ys ≡ sum_by w xs
  sum_same [] [] h = refl
  sum_same [] (y ∷ ys) h =
      let here : w y ≡ w d = h 0 in
      let none : sum_by w [] ≡ 0 = refl in
      omega (arith, sum_by-cons w y ys, here, none, sum_same [] ys (λ k. h (suc k)))
  sum_same (x ∷ xs) [] h =
      let here : w d ≡ w x = h 0 in
      let none : sum_by w [] ≡ 0 = refl in
      omega (arith, sum_by-cons w x xs, here, none, sum_same xs [] (λ k. h (suc k)))
  sum_same (x ∷ xs) (y ∷ ys) h =
      let here : w y ≡ w x = h 0 in
      omega (arith, sum_by-cons w x xs, sum_by-cons w y ys, here, sum_same xs ys (λ k. h (suc k)))

  pub sum_one : (xs ys : List X) (k : ℕ) → ((q : ℕ) → q ≢ k → w (get_or ys q d) ≡ w (get_or xs q d)) → sum_by w ys + w (get_or xs k d) ≡ sum_by w xs + w (get_or ys k d)
  sum_one [] [] k h = refl
  sum_one [] (y ∷ ys) zero h =
      let none : sum_by w [] ≡ 0 = refl in
      omega (arith, sum_by-cons w y ys, none, sum_same [] ys (λ k. h (suc k) (λ e. omega (arith, e))))
  sum_one [] (y ∷ ys) (suc k) h =
      let none : sum_by w [] ≡ 0 = refl in
      let here : w y ≡ w d = h 0 (λ e. omega (arith, e)) in
      omega (arith, sum_by-cons w y ys, here, none, sum_one [] ys k (λ q n. h (suc q) (λ e. n (omega (arith, e)))))
  sum_one (x ∷ xs) [] zero h =
      let none : sum_by w [] ≡ 0 = refl in
      omega (arith, sum_by-cons w x xs, none, sum_same xs [] (λ k. h (suc k) (λ e. omega (arith, e))))
  sum_one (x ∷ xs) [] (suc k) h =
      let none : sum_by w [] ≡ 0 = refl in
      let here : w d ≡ w x = h 0 (λ e. omega (arith, e)) in
      omega (arith, sum_by-cons w x xs, here, none, sum_one xs [] k (λ q n. h (suc q) (λ e. n (omega (arith, e)))))
  sum_one (x ∷ xs) (y ∷ ys) zero h =
      omega (arith, sum_by-cons w x xs, sum_by-cons w y ys, sum_same xs ys (λ k. h (suc k) (λ e. omega (arith, e))))
  sum_one (x ∷ xs) (y ∷ ys) (suc k) h =
      let here : w y ≡ w x = h 0 (λ e. omega (arith, e)) in
      omega (arith, sum_by-cons w x xs, sum_by-cons w y ys, here, sum_one xs ys k (λ q n. h (suc q) (λ e. n (omega (arith, e)))))

  pub sum_holds : (xs : List X) (k : ℕ) → w (get_or xs k d) ≤ sum_by w xs
  sum_holds [] k = omega (arith, z)
  sum_holds (x ∷ xs) zero = omega (arith, sum_by-cons w x xs)
  sum_holds (x ∷ xs) (suc k) = omega (arith, sum_by-cons w x xs, sum_holds xs k)

  pub sum_holds_two : (xs : List X) (j k : ℕ) → j ≢ k → w (get_or xs j d) + w (get_or xs k d) ≤ sum_by w xs
  sum_holds_two [] j k n = omega (arith, z)
  sum_holds_two (x ∷ xs) zero zero n = absurd (n refl)
  sum_holds_two (x ∷ xs) zero (suc k) n = omega (arith, sum_by-cons w x xs, sum_holds xs k)
  sum_holds_two (x ∷ xs) (suc j) zero n = omega (arith, sum_by-cons w x xs, sum_holds xs j)
  sum_holds_two (x ∷ xs) (suc j) (suc k) n = omega (arith, sum_by-cons w x xs, sum_holds_two xs j k (λ e. n (omega (arith, e))))

-- a sum of what each slot is made to
pub sum_map : {X Y : Type 0} (f : Y → ℕ) (g : X → Y) (w : X → ℕ) (d : X) (xs : List X) → ((k : ℕ) → f (g (get_or xs k d)) ≡ w (get_or xs k d)) → sum_by f (map g xs) ≡ sum_by w xs
sum_map f g w d [] h = refl
sum_map f g w d (x ∷ xs) h =
    let here : f (g x) ≡ w x = h 0 in
    omega (arith, sum_by-cons f (g x) (map g xs), sum_by-cons w x xs, here, sum_map f g w d xs (λ k. h (suc k)))
