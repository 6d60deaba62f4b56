-- Items by number of lists that are kept in pieces.
use Rattle.std.proofs.Common.{◌≡◌, ℕ, zero, suc, ◌+◌, ◌-◌, ◌<◌, ◌≤◌, List, [], ◌∷◌, ◌++◌, length, drop, Some, refl, sym, ap, ◌∙◌, arith}
use Rattle.std.specs.Prelude.{slice_get, get_or}
use Rattle.std.proofs.lemmas.Option.{slice_get-get_or}
use Rattle.std.specs.declared.rc.Rc.{Rc}
use Rattle.std.specs.declared.vec.Vec.{Vec}
use Rattle.sp_value.specs.Pieces.{all_in}

module _ {X : Type 0} where
  in_front : (xs ys : List X) (n : ℕ) → n < length xs → slice_get (xs ++ ys) n ≡ slice_get xs n
  in_front [] ys n h = absurd (omega (arith, h))
  in_front (x ∷ xs) ys zero h = refl
  in_front (x ∷ xs) ys (suc n) h = in_front xs ys n (omega (arith, h))

  behind : (xs ys : List X) (n : ℕ) → length xs ≤ n → slice_get (xs ++ ys) n ≡ slice_get ys (n - length xs)
  behind [] ys n h = let e : n - 0 ≡ n = omega arith in sym (ap (slice_get ys) e)
  behind (x ∷ xs) ys zero h = absurd (omega (arith, h))
  behind (x ∷ xs) ys (suc n) h =
      let e : n - length xs ≡ suc n - length (x ∷ xs) = omega arith in
      behind xs ys n (omega (arith, h)) ∙ ap (slice_get ys) e

module _ {X Y Z : Type 0} where
  first_piece : (ps : List (Rc (Vec X Y) Z)) (i : ℕ) (p : Rc (Vec X Y) Z) → slice_get ps i ≡ Some p → all_in (drop i ps) ≡ p.value.items ++ all_in (drop (suc i) ps)
  first_piece [] i p e = cc
  first_piece (q ∷ ps) zero p e = let same : q ≡ p = cc in ap (λ q. q.value.items ++ all_in ps) same
  first_piece (q ∷ ps) (suc i) p e = first_piece ps i p e

  from_piece : (ps : List (Rc (Vec X Y) Z)) (i : ℕ) (p : Rc (Vec X Y) Z) → slice_get ps i ≡ Some p → all_in (drop i ps) ≡ p.value.items ++ all_in (drop (i + 1) ps)
  from_piece ps i p e = let n : suc i ≡ i + 1 = omega arith in first_piece ps i p e ∙ ap (λ k. p.value.items ++ all_in (drop k ps)) n

  pub nth_here : (ps : List (Rc (Vec X Y) Z)) (i left n : ℕ) (p : Rc (Vec X Y) Z) → slice_get ps i ≡ Some p → slice_get (all_in (drop i ps)) left ≡ slice_get (all_in ps) n
      → left < length p.value.items → slice_get (all_in ps) n ≡ slice_get p.value.items left
  nth_here ps i left n p e h g = sym h ∙ ap (λ l. slice_get l left) (from_piece ps i p e) ∙ in_front p.value.items (all_in (drop (i + 1) ps)) left g

  pub nth_later : (ps : List (Rc (Vec X Y) Z)) (i left n : ℕ) (p : Rc (Vec X Y) Z) → slice_get ps i ≡ Some p → slice_get (all_in (drop i ps)) left ≡ slice_get (all_in ps) n
      → length p.value.items ≤ left → slice_get (all_in (drop (i + 1) ps)) (left - length p.value.items) ≡ slice_get (all_in ps) n
  nth_later ps i left n p e h g = sym (behind p.value.items (all_in (drop (i + 1) ps)) left g) ∙ ap (λ l. slice_get l left) (sym (from_piece ps i p e)) ∙ h

-- an item that was looked up
pub looked_up : {A : Type 0} (xs : List A) (i : ℕ) (x : A) → i < length xs → x ≡ get_or xs i x → slice_get xs i ≡ Some x
looked_up xs i x h e = slice_get-get_or xs i x h ∙ ap Some (sym e)
