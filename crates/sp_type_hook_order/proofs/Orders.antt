-- The order of hooks has the laws of an order, and ranks with their numbers are put in that order.
use Rattle.std.proofs.Common.{ℕ, ℤ, ◌≡◌, ◌+◌, ◌<◌, Bool, true, false, suc, refl, sym, ap, subst, ◌∙◌, arith, List, [], ◌∷◌, length, map, get_or, drop, zero}
use Rattle.std.specs.Prelude.{◌==◌}
use Rattle.std.specs.List.{All}
use Rattle.std.specs.List.Sorted.{IsPermutation, IsSorted}
use Rattle.std.specs.Cmp.{IsTotalOrder, IsStrictWeakOrder}
use Rattle.std.specs.Ordering.{is_lt, nat_cmp, int_cmp, ordering_then}
use Rattle.std.specs.declared.cmp.Ordering.{Ordering}
use Rattle.std.specs.declared.cmp.Ordering.TheVariants.{Less, Equal, Greater}
use Rattle.std.proofs.lemmas.List.{get_or-map}
use Rattle.std.proofs.lemmas.List.Sorted.{ranks_by, IsPermutation-map, All-permutation}
use Rattle.std.specs.Ordering.{ordering_reverse, on, flip_args}
use Rattle.std.proofs.Common.{cond, nat_lt}
use Rattle.std.proofs.lemmas.Cmp.{then_total, back_total, on_total, int_cmp_total, nat_cmp_total}
use Rattle.sp_type_hook_order.specs.Order.{numbers, rank_of, order_by, run_order}
use Rattle.sp_type_hook_order.proofs.Turns.{Laws, turns}

order_total : (rank : ℕ → ℤ) → IsTotalOrder (order_by rank)
order_total rank = then_total {R = flip_args (on rank int_cmp)} {S = nat_cmp} (back_total (on_total rank int_cmp_total)) nat_cmp_total

weak_order : (rank : ℕ → ℤ) → IsStrictWeakOrder (λ i j. is_lt (order_by rank i j))
weak_order rank = ranks_by (order_total rank) (λ i. i)

itself : (r : Ordering) → r ≡ ordering_reverse r → is_lt r ≡ false
itself Less e = absurd (let z : Less ≡ Greater = e in cc)
itself Equal e = refl
itself Greater e = refl

unequal : (b : Bool) → cond b Less Greater ≡ Equal → is_lt Equal ≡ true
unequal true e = absurd (let z : Less ≡ Equal = e in cc)
unequal false e = absurd (let z : Greater ≡ Equal = e in cc)

apart : (a : Ordering) (x y : ℕ) → (x == y) ≡ false → ordering_then a (nat_cmp x y) ≡ Equal → is_lt Equal ≡ true
apart Less x y ne e = absurd (let z : Less ≡ Equal = e in cc)
apart Equal x y ne e = unequal (nat_lt x y) (sym (ap (λ b. cond (nat_lt x y) Less (cond b Equal Greater)) ne) ∙ e)
apart Greater x y ne e = absurd (let z : Greater ≡ Equal = e in cc)

other_way : (r s : Ordering) → s ≡ ordering_reverse r → is_lt r ≡ false → (r ≡ Equal → is_lt Equal ≡ true) → is_lt s ≡ true
other_way Less s e falls never = absurd (let z : true ≡ false = falls in cc)
other_way Equal s e falls never = absurd (let z : false ≡ true = never refl in cc)
other_way Greater s e falls never = ap is_lt e

laws : (rank : ℕ → ℤ) → Laws (λ i j. is_lt (order_by rank i j))
laws rank = record {
  not_itself = λ x. itself (order_by rank x x) ((order_total rank).antisymm x x);
  not_back = (weak_order rank).one_way;
  one_way = λ x y falls ne. other_way (order_by rank x y) (order_by rank y x) ((order_total rank).antisymm y x) falls (apart (int_cmp (rank y) (rank x)) x y ne);
}

rank_at : (ranks rest : List ℤ) (k : ℕ) → drop k ranks ≡ rest → (r : ℤ) (rs : List ℤ) → rest ≡ r ∷ rs → rank_of ranks k ≡ r
rank_at [] rest zero e r rs is = absurd (let z : [] ≡ r ∷ rs = e ∙ is in cc)
rank_at [] rest (suc k) e r rs is = absurd (let z : [] ≡ r ∷ rs = e ∙ is in cc)
rank_at (x ∷ xs) rest zero e r rs is = (let z : x ∷ xs ≡ r ∷ rs = e ∙ is in cc)
rank_at (x ∷ xs) rest (suc k) e r rs is = rank_at xs rest k e r rs is

-- A list of pairs, by its parts
all_ranked : {P : Type 0} (first : P → ℤ) (second : P → ℕ) (ranks : List ℤ) (k : ℕ) (rest : List ℤ) (ps : List P)
    → drop k ranks ≡ rest → map first ps ≡ rest → map second ps ≡ numbers k rest → All (λ p. first p ≡ rank_of ranks (second p)) ps
all_ranked first second ranks k rest [] e fs ss j d less = absurd (let z : j < 0 = less in omega (arith, z))
all_ranked first second ranks k [] (p ∷ ps) e fs ss j d less = absurd (let z : first p ∷ map first ps ≡ [] = fs in cc)
all_ranked first second ranks k (r ∷ rs) (p ∷ ps) e fs ss zero d less =
    let f : first p ≡ r = (let z : first p ∷ map first ps ≡ r ∷ rs = fs in cc) in
    let s : second p ≡ k = (let z : second p ∷ map second ps ≡ k ∷ numbers (suc k) rs = ss in cc) in
    f ∙ sym (rank_at ranks (r ∷ rs) k e r rs refl) ∙ ap (rank_of ranks) (sym s)
all_ranked first second ranks k (r ∷ rs) (p ∷ ps) e fs ss (suc j) d less =
    all_ranked first second ranks (suc k) rs ps (behind k ranks r rs e) (let z : first p ∷ map first ps ≡ r ∷ rs = fs in cc) (let z : second p ∷ map second ps ≡ k ∷ numbers (suc k) rs = ss in cc) j d (omega (arith, less))
  where
    behind : (k : ℕ) (xs : List ℤ) (r : ℤ) (rs : List ℤ) → drop k xs ≡ r ∷ rs → drop (suc k) xs ≡ rs
    behind zero [] r rs e = absurd (let z : [] ≡ r ∷ rs = e in cc)
    behind zero (x ∷ xs) r rs e = (let z : x ∷ xs ≡ r ∷ rs = e in cc)
    behind (suc k) [] r rs e = absurd (let z : [] ≡ r ∷ rs = e in cc)
    behind (suc k) (x ∷ xs) r rs e = behind k xs r rs e

-- Pairs of ranks and numbers that are put in order have their numbers in the order of hooks.
module _ {P : Type 0} (first : P → ℤ) (second : P → ℕ) where
  pub moved : (ranks : List ℤ) (ps qs : List P) → map second ps ≡ numbers 0 ranks → IsPermutation ps qs → IsPermutation (numbers 0 ranks) (map second qs)
  moved ranks ps qs ss moves = subst (λ l. IsPermutation l (map second qs)) ss (IsPermutation-map second ps qs moves)

  pub sorted : (ranks : List ℤ) (ps qs : List P) → map first ps ≡ ranks → map second ps ≡ numbers 0 ranks → IsPermutation ps qs
      → IsSorted (λ x y. ordering_then (int_cmp (first y) (first x)) (nat_cmp (second x) (second y))) qs → IsSorted (order_by (rank_of ranks)) (map second qs)
  sorted ranks ps qs fs ss moves up k d low less =
      let ranked : All (λ p. first p ≡ rank_of ranks (second p)) qs = All-permutation (λ p. first p ≡ rank_of ranks (second p)) ps qs moves (all_ranked first second ranks 0 ranks ps refl fs ss) in
      at ranked qs refl less
    where
      at : All (λ p. first p ≡ rank_of ranks (second p)) qs → (l : List P) → qs ≡ l → k + 1 < length (map second qs) → is_lt (order_by (rank_of ranks) (get_or (map second qs) (k + 1) d) (get_or (map second qs) k d)) ≡ false
      at ranked [] e less = absurd (let z : length (map second qs) ≡ 0 = ap (λ x. length (map second x)) e in omega (arith, z, less))
      at ranked (p ∷ l) e less =
          let long : length (map second qs) ≡ length qs = length_map qs in
          let in_later : k + 1 < length qs = omega (arith, long, less) in
          let in_now : k < length qs = omega (arith, in_later) in
          let later = get_or qs (k + 1) p in
          let now = get_or qs k p in
          let fl : first later ≡ rank_of ranks (second later) = ranked (k + 1) p in_later in
          let fn : first now ≡ rank_of ranks (second now) = ranked k p in_now in
          ap (λ i. is_lt (order_by (rank_of ranks) i (get_or (map second qs) k d))) (get_or-map second qs (k + 1) p d in_later)
          ∙ ap (λ j. is_lt (order_by (rank_of ranks) (second later) j)) (get_or-map second qs k p d in_now)
          ∙ ap (λ r. is_lt (ordering_then (int_cmp r (rank_of ranks (second later))) (nat_cmp (second later) (second now)))) (sym fn)
          ∙ ap (λ r. is_lt (ordering_then (int_cmp (first now) r) (nat_cmp (second later) (second now)))) (sym fl)
          ∙ up k p low in_later
        where
          length_map : (xs : List P) → length (map second xs) ≡ length xs
          length_map [] = refl
          length_map (x ∷ xs) = ap suc (length_map xs)

-- what is in order is the order
pub is_run_order : (ranks : List ℤ) (ys : List ℕ) → IsPermutation (numbers 0 ranks) ys → IsSorted (order_by (rank_of ranks)) ys → ys ≡ run_order ranks
is_run_order ranks ys moves up = sym (turns (λ i j. is_lt (order_by (rank_of ranks) i j)) (laws (rank_of ranks)) (weak_order (rank_of ranks)) ranks ys moves up)
