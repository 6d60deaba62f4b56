-- The stack that two lists stand for, as its last trees and what stands under them.
use Rattle.std.proofs.Common.{◌≡◌, ℕ, ◌+◌, ◌-◌, ◌<◌, ◌≤◌, zero, suc, List, [], ◌∷◌, ◌++◌, length, get_or, take, drop, refl, ap, sym, ◌∙◌, subst, arith}
use Rattle.std.proofs.lemmas.List.{append_assoc, append-nil, length-drop, length-take-le, length_push, drop-append-le, take-append-le, take_all, drop_all, take-append-drop, take_more}
use Rattle.sp_ast.specs.Trees.{Tree, absent}
use Rattle.sp_build.specs.declared.stack.Begin.{Begin}
use Rattle.sp_build.specs.Items.{Item, begun, built}
use Rattle.sp_build.specs.Building.{Stack}
use Rattle.sp_build.specs.Stacks.{built_on, stack_of, floor_of, AreInOrder, last_before, last_trees, AreTrees, IsFloor}

-- one more tree on a stack
on_push : (ts : List Tree) (t : Tree) (s : Stack) → built_on (ts ++ t ∷ []) s ≡ built t ∷ built_on ts s
on_push [] t s = refl
on_push (u ∷ ts) t s = on_push ts t (built u ∷ s)

pub tree_put : (bs : List Begin) (ts : List Tree) (t : Tree) → floor_of bs ≤ length ts → stack_of bs (ts ++ t ∷ []) ≡ built t ∷ stack_of bs ts
tree_put [] ts t h = on_push ts t []
tree_put (b ∷ bs) ts t h =
    let d = drop-append-le b.below ts (t ∷ []) h in
    let k = take-append-le b.below ts (t ∷ []) h in
    rw (d, k) (on_push (drop b.below ts) t (begun b.token ∷ stack_of bs (take b.below ts)))

pub begin_put : (b : Begin) (bs : List Begin) (ts : List Tree) → b.below ≡ length ts → stack_of (b ∷ bs) ts ≡ begun b.token ∷ stack_of bs ts
begin_put b bs ts h =
    let d = drop_all b.below ts (omega (arith, h)) in
    let k = take_all b.below ts (omega (arith, h)) in
    rw (d, k) refl

-- more trees on a stack
pub trees_put : (bs : List Begin) (ts us : List Tree) → floor_of bs ≤ length ts → stack_of bs (ts ++ us) ≡ built_on us (stack_of bs ts)
trees_put bs ts [] h = ap (stack_of bs) (append-nil ts)
trees_put bs ts (u ∷ us) h =
    let one = ap (stack_of bs) (sym (append_assoc ts (u ∷ []) us)) in
    let rest = trees_put bs (ts ++ u ∷ []) us (omega (arith, length_push ts u)) in
    one ∙ rest ∙ ap (built_on us) (tree_put bs ts u h)

-- under trees stands the stack on which they were put, and the trees are the last ones
under_more : (us : List Tree) (s : Stack) (k : ℕ) → drop (length us + k) (built_on us s) ≡ drop k s
under_more [] s k = let n : 0 + k ≡ k = omega arith in ap (λ (m : ℕ). drop m s) n
under_more (u ∷ us) s k =
    let n : length (u ∷ us) + k ≡ length us + suc k = omega arith in
    ap (λ (m : ℕ). drop m (built_on us (built u ∷ s))) n ∙ under_more us (built u ∷ s) (suc k)

last_more : (us : List Tree) (s : Stack) (k : ℕ) (ts : List Tree) → last_before (length us + k) (built_on us s) ts ≡ last_before k s (us ++ ts)
last_more [] s k ts = let n : 0 + k ≡ k = omega arith in ap (λ (m : ℕ). last_before m s ts) n
last_more (u ∷ us) s k ts =
    let n : length (u ∷ us) + k ≡ length us + suc k = omega arith in
    ap (λ (m : ℕ). last_before m (built_on us (built u ∷ s)) ts) n ∙ last_more us (built u ∷ s) (suc k) ts

pub under_trees : (us : List Tree) (s : Stack) → drop (length us) (built_on us s) ≡ s
under_trees us s =
    let n : length us ≡ length us + 0 = omega arith in
    ap (λ (m : ℕ). drop m (built_on us s)) n ∙ under_more us s 0

pub last_are : (us : List Tree) (s : Stack) → last_trees (length us) (built_on us s) ≡ us
last_are us s =
    let n : length us ≡ length us + 0 = omega arith in
    ap (λ (m : ℕ). last_before m (built_on us s) []) n ∙ last_more us s 0 [] ∙ append-nil us

-- the last trees, so many, are no more than stand above a place where a tree began
on_floor : (m : ℕ) (s : Stack) → IsFloor s → AreTrees m s → m ≤ 0
on_floor zero s floor are = omega arith
on_floor (suc m) [] floor are = absurd are
on_floor (suc m) (begun p ∷ s) floor are = absurd are
on_floor (suc m) (built t ∷ s) floor are = absurd floor

one_above : (u : Tree) (s : Stack) (k m : ℕ) → ((m : ℕ) → AreTrees m s → m ≤ k) → AreTrees m (built u ∷ s) → m ≤ suc k
one_above u s k zero most are = omega arith
one_above u s k (suc m) most are = let h = most m are in omega (arith, h)

above : (us : List Tree) (s : Stack) (n k : ℕ) → ((m : ℕ) → AreTrees m s → m ≤ k) → AreTrees n (built_on us s) → n ≤ length us + k
above [] s n k most are = let h = most n are in omega (arith, h)
above (u ∷ us) s n k most are =
    let next = above us (built u ∷ s) n (suc k) (λ m. one_above u s k m most) are in omega (arith, next)

no_more_trees : (us : List Tree) (s : Stack) (n : ℕ) → IsFloor s → AreTrees n (built_on us s) → n ≤ length us
no_more_trees us s n floor are = let h = above us s n 0 (λ m. on_floor m s floor) are in omega (arith, h)

pub above_floor : (bs : List Begin) (ts : List Tree) (n : ℕ) → AreInOrder bs (length ts) → AreTrees n (stack_of bs ts) → floor_of bs + n ≤ length ts
above_floor [] ts n order are = let h = no_more_trees ts [] n tt are in omega (arith, h)
above_floor (b ∷ bs) ts n order are =
    let h = no_more_trees (drop b.below ts) (begun b.token ∷ stack_of bs (take b.below ts)) n tt are in
    omega (arith, h, order.0, length-drop b.below ts)

-- the trees of a stack, cut before the last ones
pub record Cut (bs : List Begin) (ts : List Tree) (n : ℕ) : Type 0 where
  pub within : floor_of bs + n ≤ length ts
  pub last : last_trees n (stack_of bs ts) ≡ drop (length ts - n) ts
  pub under : drop n (stack_of bs ts) ≡ stack_of bs (take (length ts - n) ts)

pub cut : (bs : List Begin) (ts : List Tree) (n : ℕ) → AreInOrder bs (length ts) → AreTrees n (stack_of bs ts) → Cut bs ts n
cut bs ts n order are =
    let within = above_floor bs ts n order are in
    let at = length ts - n in
    let whole : take at ts ++ drop at ts ≡ ts = take-append-drop at ts in
    let short : length (take at ts) ≡ at = length-take-le at ts (omega arith) in
    let long : length (drop at ts) ≡ n = omega (arith, length-drop at ts, within) in
    let put : stack_of bs ts ≡ built_on (drop at ts) (stack_of bs (take at ts)) = ap (stack_of bs) (sym whole) ∙ trees_put bs (take at ts) (drop at ts) (omega (arith, short, within)) in
    record {
      within = within;
      last = ap (last_trees n) put ∙ ap (λ (m : ℕ). last_trees m (built_on (drop at ts) (stack_of bs (take at ts)))) (sym long) ∙ last_are (drop at ts) (stack_of bs (take at ts));
      under = ap (drop n) put ∙ ap (λ (m : ℕ). drop m (built_on (drop at ts) (stack_of bs (take at ts)))) (sym long) ∙ under_trees (drop at ts) (stack_of bs (take at ts));
    }

-- at the place where the last tree began
pub on_begin : (b : Begin) (bs : List Begin) (ts : List Tree) (n : ℕ) → AreInOrder (b ∷ bs) (length ts) → AreTrees n (stack_of (b ∷ bs) ts) → b.below ≡ length ts - n → drop n (stack_of (b ∷ bs) ts) ≡ begun b.token ∷ stack_of bs (take b.below ts)
on_begin b bs ts n order are at =
    let c = cut (b ∷ bs) ts n order are in
    let short : length (take b.below ts) ≡ b.below = length-take-le b.below ts order.0 in
    c.under ∙ ap (λ (m : ℕ). stack_of (b ∷ bs) (take m ts)) (sym at) ∙ begin_put b bs (take b.below ts) (sym short)

-- above that place
pub on_tree : (bs : List Begin) (ts : List Tree) (n : ℕ) → AreInOrder bs (length ts) → AreTrees n (stack_of bs ts) → floor_of bs < length ts - n → drop n (stack_of bs ts) ≡ built (get_or ts (length ts - n - 1) absent) ∷ stack_of bs (take (length ts - n - 1) ts)
on_tree bs ts n order are above =
    let c = cut bs ts n order are in
    let k = length ts - n - 1 in
    let next : length ts - n ≡ k + 1 = omega arith in
    let split : take (k + 1) ts ≡ take k ts ++ get_or ts k absent ∷ [] = take_more ts k absent (omega arith) in
    let short : length (take k ts) ≡ k = length-take-le k ts (omega arith) in
    c.under ∙ ap (λ (m : ℕ). stack_of bs (take m ts)) next ∙ ap (stack_of bs) split ∙ tree_put bs (take k ts) (get_or ts k absent) (omega (arith, short))

-- the next item, and what is left
pub next_item : (n : ℕ) (s r : Stack) (i : Item) → drop n s ≡ i ∷ r → drop n s ≡ i ∷ drop (suc n) s
next_item zero [] r i e = cc
next_item zero (x ∷ s) r i e = cc
next_item (suc n) [] r i e = cc
next_item (suc n) (x ∷ s) r i e = next_item n s r i e

-- at the floor no tree stands
pub at_floor : (bs : List Begin) (ts : List Tree) (n : ℕ) → AreInOrder bs (length ts) → AreTrees n (stack_of bs ts) → length ts - n ≤ floor_of bs → IsFloor (drop n (stack_of bs ts))
at_floor [] ts n order are low =
    let c = cut [] ts n order are in
    let k : length ts - n ≡ 0 = omega (arith, low) in
    subst IsFloor (sym (c.under ∙ ap (λ (m : ℕ). stack_of [] (take m ts)) k)) tt
at_floor (b ∷ bs) ts n order are low =
    let h = above_floor (b ∷ bs) ts n order are in
    subst IsFloor (sym (on_begin b bs ts n order are (omega (arith, h, low)))) tt
