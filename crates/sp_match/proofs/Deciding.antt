-- What the set of live spots tells of the token set.
use Rattle.std.proofs.Common.{◌≡◌, ℕ, zero, suc, if◌then◌else◌, ◌+◌, ◌<◌, ◌≤◌, ◌++◌, ◌⊎◌, Bool, true, false, List, [], ◌∷◌, Option, Some, None, length, take, get_or, refl, ap, sym, subst, ◌∙◌, inl, inr, arith, length-append}
use Rattle.std.proofs.lemmas.List.{append-nil, take-append-le, take_all}
use Rattle.std.proofs.lemmas.Bool.{leb-true}
use Rattle.std.proofs.lemmas.Bool.Decides.{nat_tests}
use Rattle.sp_regex.specs.Trees.{Syntax, empty}
use Rattle.sp_regex.specs.Language.{InL}
use Rattle.sp_match.specs.declared.spot.Spot.{Spot}
use Rattle.sp_match.specs.declared.spot.Spot.TheVariants as spot
use Rattle.sp_match.specs.Nets.{at, moves, jumps, is_byte, is_goal, goal_token, goal_literal, Reads, here, over, through}
use Rattle.sp_match.specs.Matching.{HasWord, kind, Before, CanGrow, IsBest, BestSoFar}
use Rattle.sp_match.specs.Running.{Stands, IsNetOf, is_ahead, Ahead, IsWinner, newest_of}
use Rattle.sp_match.specs.declared.machine.Goal.{Goal}
use Rattle.sp_match.specs.Tables.{AreGoals, goal_at, preferred, best_of}
use Rattle.sp_match.proofs.Compiling.{order, before_or_not, not_both}
use Rattle.sp_match.proofs.Growing.{no_goal_behind}
use Rattle.sp_match.proofs.Running.{closed_goal, closed_step, ends_at_goal}

-- the better of two goals

take_whole : (w : List ℕ) (b m : ℕ) → length (w ++ b ∷ []) ≤ m → take m (w ++ b ∷ []) ≡ w ++ b ∷ []
take_whole w b m le = take_all m (w ++ b ∷ []) le

ahead_true : (l : Bool) (t : ℕ) (m : Bool) (u : ℕ) → is_ahead l t m u ≡ true → Ahead l t m u
ahead_true true t true u e = inr (refl, leb-true t u e)
ahead_true true t false u e = inl (refl, refl)
ahead_true false t true u e = absurd (let k : false ≡ true = e in cc)
ahead_true false t false u e = inr (refl, leb-true t u e)

ahead_false : (l : Bool) (t : ℕ) (m : Bool) (u : ℕ) → is_ahead l t m u ≡ false → Ahead m u l t
ahead_false true t true u e = inr (refl, grind (arith, nat_tests))
ahead_false true t false u e = absurd (let k : true ≡ false = e in cc)
ahead_false false t true u e = inl (refl, refl)
ahead_false false t false u e = inr (refl, grind (arith, nat_tests))

ahead_chain : (l : Bool) (t : ℕ) (m : Bool) (u : ℕ) (n : Bool) (v : ℕ) → Ahead l t m u → Ahead m u n v → Ahead l t n v
ahead_chain l t m u n v (inl x) (inl y) = absurd (not_both y.0 x.1)
ahead_chain l t m u n v (inl x) (inr y) = inl (x.0, sym y.0 ∙ x.1)
ahead_chain l t m u n v (inr x) (inl y) = inl (x.0 ∙ y.0, y.1)
ahead_chain l t m u n v (inr x) (inr y) = inr (x.0 ∙ y.0, (let a = x.1 in let b = y.1 in omega arith))

-- the best live goal of the first n
abbrev pub IsBestOf : List Goal → (ℕ → Bool) → ℕ → Option (ℕ × Bool) → Type 0
IsBestOf goals live n None = (j : ℕ) → j < n → live ((goal_at goals j).spot) ≡ true → ⊥
IsBestOf goals live n (Some best) = ((j : ℕ) × (j < n) × (live ((goal_at goals j).spot) ≡ true) × ((goal_at goals j).token ≡ best.0) × ((goal_at goals j).literal ≡ best.1)) × ((j : ℕ) → j < n → live ((goal_at goals j).spot) ≡ true → Ahead best.1 best.0 ((goal_at goals j).literal) ((goal_at goals j).token))

below_next : (g i : ℕ) → g < suc i → (g < i) ⊎ (g ≡ i)
below_next g i lt = elim (order g i) [ inl x ↦ inl x | inr y ↦ elim y [ inl e ↦ inr e | inr z ↦ absurd (omega arith) ] ]

best_skips : (goals : List Goal) (live : ℕ → Bool) (n : ℕ) (best : Option (ℕ × Bool)) → live ((goal_at goals n).spot) ≡ false → IsBestOf goals live n best → IsBestOf goals live (suc n) best
best_skips goals live n None off w = λ j lt h. elim (below_next j n lt) [
  | inl x ↦ w j x h
  | inr e ↦ not_both (ap (λ i. live ((goal_at goals i).spot)) (sym e) ∙ h) off
]
best_skips goals live n (Some best) off w = (
  (let k = w.0 in let lt = k.1 in (k.0, omega arith, k.2, k.3, k.4)),
  λ j lt h. elim (below_next j n lt) [
    | inl x ↦ w.1 j x h
    | inr e ↦ absurd (not_both (ap (λ i. live ((goal_at goals i).spot)) (sym e) ∙ h) off)
  ],
)

best_choice : (goals : List Goal) (live : ℕ → Bool) (n token : ℕ) (literal : Bool) (best : ℕ × Bool) (on : Bool) → is_ahead best.1 best.0 literal token ≡ on → (goal_at goals n).token ≡ token → (goal_at goals n).literal ≡ literal → live ((goal_at goals n).spot) ≡ true → IsBestOf goals live n (Some best) → IsBestOf goals live (suc n) (if on then Some (best.0, best.1) else Some (token, literal))
best_choice goals live n token literal best true a t l f w = (
  (let k = w.0 in let lt = k.1 in (k.0, omega arith, k.2, k.3, k.4)),
  λ j lt h. elim (below_next j n lt) [
    | inl x ↦ w.1 j x h
    | inr is ↦ subst (λ i. Ahead best.1 best.0 ((goal_at goals i).literal) ((goal_at goals i).token)) (sym is) (subst (λ z. Ahead best.1 best.0 z ((goal_at goals n).token)) (sym l) (subst (λ z. Ahead best.1 best.0 literal z) (sym t) (ahead_true best.1 best.0 literal token a)))
  ],
)
best_choice goals live n token literal best false a t l f w = (
  (n, omega arith, f, t, l),
  λ j lt h. elim (below_next j n lt) [
    | inl x ↦ ahead_chain literal token best.1 best.0 ((goal_at goals j).literal) ((goal_at goals j).token) (ahead_false best.1 best.0 literal token a) (w.1 j x h)
    | inr is ↦ inr (sym l ∙ ap (λ i. (goal_at goals i).literal) (sym is), (let e = ap (λ i. (goal_at goals i).token) is in omega arith))
  ],
)

best_turn : (goals : List Goal) (live : ℕ → Bool) (n : ℕ) (on : Bool) (best : Option (ℕ × Bool)) → live ((goal_at goals n).spot) ≡ on → IsBestOf goals live n best → IsBestOf goals live (suc n) (preferred (goal_at goals n) on best)
best_turn goals live n false best f w = best_skips goals live n best f w
best_turn goals live n true None f w = (
  (n, omega arith, f, refl, refl),
  λ j lt h. elim (below_next j n lt) [
    | inl x ↦ absurd (w j x h)
    | inr is ↦ inr (ap (λ i. (goal_at goals i).literal) (sym is), (let e = ap (λ i. (goal_at goals i).token) is in omega arith))
  ],
)
best_turn goals live n true (Some best) f w = best_choice goals live n ((goal_at goals n).token) ((goal_at goals n).literal) best (is_ahead best.1 best.0 ((goal_at goals n).literal) ((goal_at goals n).token)) refl refl refl f w

is_best : (goals : List Goal) (live : ℕ → Bool) (n : ℕ) → IsBestOf goals live n (best_of goals live n)
is_best goals live zero = λ j lt h. absurd (omega arith)
is_best goals live (suc n) = best_turn goals live n (live ((goal_at goals n).spot)) (best_of goals live n) refl (is_best goals live n)

goal_below : (net : List Spot) (g : ℕ) → is_goal (at net g) ≡ true → g < length net
goal_below net g is = elim (before_or_not g (length net)) [ inl lt ↦ lt | inr ge ↦ absurd (no_goal_behind net g ge is) ]

best_wins : (net : List Spot) (goals : List Goal) (live : ℕ → Bool) → AreGoals net goals (length net) → (won : Option (ℕ × Bool)) → IsBestOf goals live (length goals) won → IsWinner net live won
best_wins net goals live are None w = λ g h is. let k = are.all g (goal_below net g is) is in w k.0 k.1 (ap live k.2 ∙ h)
best_wins net goals live are (Some best) w = (
  (let k = w.0 in let f = are.is k.0 k.1 in ((goal_at goals k.0).spot, k.2, f.0, f.1 ∙ k.3, f.2 ∙ k.4)),
  λ g h is. let k = are.all g (goal_below net g is) is in let f = are.is k.0 k.1 in
      subst (λ z. Ahead best.1 best.0 (goal_literal (at net z)) (goal_token (at net z))) k.2
      (subst (λ z. Ahead best.1 best.0 z (goal_token (at net ((goal_at goals k.0).spot)))) (sym f.2)
      (subst (λ z. Ahead best.1 best.0 ((goal_at goals k.0).literal) z) (sym f.1) (w.1 k.0 k.1 (ap live k.2 ∙ h)))),
)

-- the best live goal of all
pub is_winner : (net : List Spot) (goals : List Goal) (live : ℕ → Bool) → AreGoals net goals (length net) → IsWinner net live (best_of goals live (length goals))
is_winner net goals live are = best_wins net goals live are (best_of goals live (length goals)) (is_best goals live (length goals))

-- from live spots to words

moves_byte : (s : Spot) (b q : ℕ) → moves s b q ≡ true → is_byte s ≡ true
moves_byte (spot.Byte bytes next) b q m = refl
moves_byte (spot.Goal token literal) b q m = absurd (let k : false ≡ true = m in cc)
moves_byte (spot.Jump to) b q m = absurd (let k : false ≡ true = m in cc)
moves_byte spot.Nothing b q m = absurd (let k : false ≡ true = m in cc)

byte_is_no_goal : (s : Spot) → is_byte s ≡ true → is_goal s ≡ true → ⊥
byte_is_no_goal (spot.Byte bytes next) b g = absurd (let k : false ≡ true = g in cc)
byte_is_no_goal (spot.Goal token literal) b g = absurd (let k : false ≡ true = b in cc)
byte_is_no_goal (spot.Jump to) b g = absurd (let k : false ≡ true = b in cc)
byte_is_no_goal spot.Nothing b g = absurd (let k : false ≡ true = b in cc)

byte_is_no_jump : (s : Spot) (q : ℕ) → is_byte s ≡ true → jumps s q ≡ true → ⊥
byte_is_no_jump (spot.Byte bytes next) q b j = absurd (let k : false ≡ true = j in cc)
byte_is_no_jump (spot.Goal token literal) q b j = absurd (let k : false ≡ true = b in cc)
byte_is_no_jump (spot.Jump to) q b j = absurd (let k : false ≡ true = b in cc)
byte_is_no_jump spot.Nothing q b j = absurd (let k : false ≡ true = b in cc)

from_byte : (net : List Spot) (g p : ℕ) (w : List ℕ) → is_byte (at net p) ≡ true → Reads net g p w → (b : ℕ) × (t : List ℕ) × (w ≡ b ∷ t)
from_byte net g p w b (here x) = absurd (byte_is_no_goal (at net g) b x)
from_byte net g p w b (over {b = c} {w = v} m r) = (c, v, refl)
from_byte net g p w b (through {q = q} j r) = absurd (byte_is_no_jump (at net p) q b j)

module _ {tokens : List Syntax} {net : List Spot} {start : List ℕ} (n : IsNetOf tokens net start) where
  pub live_has : (w : List ℕ) (live : ℕ → Bool) → Stands tokens net w live → (g : ℕ) → live g ≡ true → is_goal (at net g) ≡ true → HasWord tokens (goal_token (at net g)) w
  live_has w live s g h is = ((n.begins.goals g is).0, subst (InL (get_or tokens (goal_token (at net g)) empty)) (append-nil w) (s.came g [] is (g, h, here is)))

  pub has_live : (w : List ℕ) (live : ℕ → Bool) → Stands tokens net w live → (i : ℕ) → HasWord tokens i w → (g : ℕ) × (live g ≡ true) × (is_goal (at net g) ≡ true) × (goal_token (at net g) ≡ i)
  has_live w live s i x =
      let k = n.begins.goal_of i x.0 in
      let l : InL (get_or tokens (goal_token (at net k.0)) empty) (w ++ []) = subst (λ j. InL (get_or tokens j empty) (w ++ [])) (sym k.2) (subst (InL (get_or tokens i empty)) (sym (append-nil w)) x.1) in
      let r = s.goes_on k.0 [] k.1 l in
      (k.0, closed_goal net live s.closed k.0 r.0 r.1 r.2, k.1, k.2)

  pub can_grow : (w : List ℕ) (live : ℕ → Bool) → Stands tokens net w live → (p : ℕ) → live p ≡ true → is_byte (at net p) ≡ true → CanGrow tokens w
  can_grow w live s p h b =
      let a = s.alive p h in
      let f = from_byte net a.0 p a.1 b a.2 in
      let is = ends_at_goal net a.0 p a.1 a.2 in
      (goal_token (at net a.0), f.0, f.1, ((n.begins.goals a.0 is).0, s.came a.0 (f.0 ∷ f.1) is (p, h, subst (Reads net a.0 p) f.2 a.2)))

  pub grows_live : (w : List ℕ) (live : ℕ → Bool) → Stands tokens net w live → CanGrow tokens w → (p : ℕ) × (live p ≡ true) × (is_byte (at net p) ≡ true)
  grows_live w live s x =
      let k = n.begins.goal_of x.0 x.3.0 in
      let l : InL (get_or tokens (goal_token (at net k.0)) empty) (w ++ x.1 ∷ x.2) = subst (λ j. InL (get_or tokens j empty) (w ++ x.1 ∷ x.2)) (sym k.2) x.3.1 in
      let r = s.goes_on k.0 (x.1 ∷ x.2) k.1 l in
      let y = closed_step net live s.closed k.0 r.0 x.1 x.2 r.1 r.2 in
      (y.0, y.2, moves_byte (at net y.0) x.1 y.1 y.3)

  before : (i j : ℕ) (l : Bool) (g k : ℕ) → is_goal (at net g) ≡ true → goal_token (at net g) ≡ i → goal_literal (at net g) ≡ l → is_goal (at net k) ≡ true → goal_token (at net k) ≡ j → Ahead l i (goal_literal (at net k)) (goal_token (at net k)) → Before tokens i j
  before i j l g k gis gi gl kis kj a =
      let one : l ≡ kind tokens i = sym gl ∙ (n.begins.goals g gis).1 ∙ ap (kind tokens) gi in
      let two : goal_literal (at net k) ≡ kind tokens j = (n.begins.goals k kis).1 ∙ ap (kind tokens) kj in
      elim a [
        | inl x ↦ inl (sym one ∙ x.0, sym two ∙ x.1)
        | inr x ↦ inr (sym one ∙ x.0 ∙ two, (let le = x.1 in omega arith))
      ]

  nothing : (w : List ℕ) (b : ℕ) (live : ℕ → Bool) → Stands tokens net (w ++ b ∷ []) live → IsWinner net live None → (j : ℕ) → HasWord tokens j (w ++ b ∷ []) → ⊥
  nothing w b live s won j h = let k = has_live (w ++ b ∷ []) live s j h in won k.0 k.1 k.2

  best_stays : (w : List ℕ) (b : ℕ) (best : ℕ × ℕ) → ((j : ℕ) → HasWord tokens j (w ++ b ∷ []) → ⊥) → IsBest tokens w best.0 best.1 → IsBest tokens (w ++ b ∷ []) best.0 best.1
  best_stays w b best misses old =
      let long = length-append w (b ∷ []) in let small = old.within in
      record {
        within = omega arith;
        matches = subst (HasWord tokens best.0) (sym (take-append-le best.1 w (b ∷ []) small)) old.matches;
        longest = λ j m le h. elim (before_or_not m (length w + 1)) [
          | inl lt ↦ old.longest j m (omega arith) (subst (HasWord tokens j) (take-append-le m w (b ∷ []) (omega arith)) h)
          | inr ge ↦ absurd (misses j (subst (HasWord tokens j) (take_whole w b m (omega arith)) h))
        ];
        first = λ j h. old.first j (subst (HasWord tokens j) (take-append-le best.1 w (b ∷ []) small) h);
      }

  -- the best match after one byte more
  pub best_next : (w : List ℕ) (b : ℕ) (live : ℕ → Bool) (best : Option (ℕ × ℕ)) → Stands tokens net (w ++ b ∷ []) live → BestSoFar tokens w best → (won : Option (ℕ × Bool)) → IsWinner net live won → BestSoFar tokens (w ++ b ∷ []) (newest_of won (length w + 1) best)
  best_next w b live (Some best) s old None won = best_stays w b best (λ j h. nothing w b live s won j h) old
  best_next w b live None s old None won = λ j m small h. elim (before_or_not m (length w + 1)) [
    | inl lt ↦ old j m (omega arith) (subst (HasWord tokens j) (take-append-le m w (b ∷ []) (omega arith)) h)
    | inr ge ↦ nothing w b live s won j (subst (HasWord tokens j) (take_whole w b m (let long = length-append w (b ∷ []) in omega arith)) h)
  ]
  best_next w b live best s old (Some won) x =
      let g = x.0 in
      let long = length-append w (b ∷ []) in
      let all : take (length w + 1) (w ++ b ∷ []) ≡ w ++ b ∷ [] = take_whole w b (length w + 1) (omega arith) in
      record {
        within = omega arith;
        matches = subst (HasWord tokens won.0) (sym all) (subst (λ j. HasWord tokens j (w ++ b ∷ [])) g.3 (live_has (w ++ b ∷ []) live s g.0 g.1 g.2));
        longest = λ j m small h. omega arith;
        first = λ j h. let k = has_live (w ++ b ∷ []) live s j (subst (HasWord tokens j) all h) in
            let a = x.1 k.0 k.1 k.2 in
            before won.0 j won.1 g.0 k.0 g.2 g.3 g.4 k.2 k.3 a;
      }
