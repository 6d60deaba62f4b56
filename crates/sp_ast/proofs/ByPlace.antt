-- Trees by their places: what a longer list leaves, and what is true of all trees of a list.
use Rattle.std.proofs.Common.{◌≡◌, ℕ, ◌+◌, ◌<◌, ◌≤◌, zero, suc, List, [], ◌∷◌, ◌++◌, length, get_or, take, max, eqb, true, refl, ap, sym, ◌∙◌, arith, inl, inr, ⊎_elim}
use Rattle.std.proofs.lemmas.List.{get_or_append_left, get_or_past, length-append, map_more}
use Rattle.std.proofs.lemmas.Bool.{eq-eqb, ne_eqb, cond-true, cond-false, cases_eq, and_from}
use Rattle.sp_ast.specs.Trees.{Tree, absent, row, none, trees}
use Rattle.sp_ast.specs.Heights.{height, list_height, most_levels}
use Rattle.sp_ast.specs.Slots.{is_formed, are_formed}
use Rattle.sp_ast.specs.Places.{tree_at, trees_at, IsPlace, ArePlaces, AreSound, no_parts}
use Rattle.sp_ast.proofs.Highest.{height_of_one_more}

-- what a place names, by whether it is that of an empty row
pub at_row : (ts : List Tree) (at : ℕ) → at ≡ no_parts → tree_at ts at ≡ row none
at_row ts at e = cond-true (eqb at no_parts) (row none) (get_or ts at absent) (eq-eqb at no_parts e)

pub at_tree : (ts : List Tree) (at : ℕ) → (at ≡ no_parts → ⊥) → tree_at ts at ≡ get_or ts at absent
at_tree ts at n = cond-false (eqb at no_parts) (row none) (get_or ts at absent) (ne_eqb at no_parts n)

-- a place behind all trees names none
pub at_none : (ts : List Tree) (at : ℕ) → (at ≡ no_parts → ⊥) → length ts ≤ at → tree_at ts at ≡ absent
at_none ts at n past = at_tree ts at n ∙ get_or_past ts at absent past

stays_below : (ts us : List Tree) (at : ℕ) → length (ts ++ us) ≤ no_parts → at < length ts → tree_at (ts ++ us) at ≡ tree_at ts at
stays_below ts us at few below =
    let n : at ≡ no_parts → ⊥ = λ e. omega (arith, length-append ts us) in
    at_tree (ts ++ us) at n ∙ get_or_append_left ts us absent at below ∙ sym (at_tree ts at n)

stays_beyond : (ts us : List Tree) (at : ℕ) → length (ts ++ us) ≤ no_parts → no_parts ≤ at → tree_at (ts ++ us) at ≡ tree_at ts at
stays_beyond ts us at few beyond =
    ⊎_elim (λ (e : at ≡ no_parts). at_row (ts ++ us) at e ∙ sym (at_row ts at e)) (λ (n : at ≡ no_parts → ⊥). at_none (ts ++ us) at n (omega arith) ∙ sym (at_none ts at n (omega (arith, length-append ts us)))) (cases_eq at no_parts)

-- a longer list has the same tree at a place
pub stays : (ts us : List Tree) (at : ℕ) → length (ts ++ us) ≤ no_parts → IsPlace ts at → tree_at (ts ++ us) at ≡ tree_at ts at
stays ts us at few (inl below) = stays_below ts us at few below
stays ts us at few (inr beyond) = stays_beyond ts us at few beyond

pub trees_stay : (ts us : List Tree) (places : List ℕ) → length (ts ++ us) ≤ no_parts → ArePlaces ts places → trees_at (ts ++ us) places ≡ trees_at ts places
trees_stay ts us [] few are = refl
trees_stay ts us (at ∷ places) few are =
    let first = stays ts us at few are.0 in let others = trees_stay ts us places few are.1 in cc

-- a place of a list is one of a longer list
pub place_later : (ts us : List Tree) (at : ℕ) → IsPlace ts at → IsPlace (ts ++ us) at
place_later ts us at (inl below) = inl (omega (arith, length-append ts us))
place_later ts us at (inr beyond) = inr beyond

pub places_later : (ts us : List Tree) (places : List ℕ) → ArePlaces ts places → ArePlaces (ts ++ us) places
places_later ts us [] are = tt
places_later ts us (at ∷ places) are = (place_later ts us at are.0, places_later ts us places are.1)

-- all trees of a list, and one more
pub sound_push : (ts : List Tree) (t : Tree) → AreSound ts → height t ≤ most_levels → is_formed t ≡ true → AreSound (ts ++ t ∷ [])
sound_push [] t are low formed = (low, formed, tt)
sound_push (u ∷ ts) t are low formed = (are.0, are.1, sound_push ts t are.2 low formed)

pub sound_front : (ts us : List Tree) → AreSound (ts ++ us) → AreSound ts
sound_front [] us are = tt
sound_front (t ∷ ts) us are = (are.0, are.1, sound_front ts us are.2)

pub sound_back : (ts us : List Tree) → AreSound (ts ++ us) → AreSound us
sound_back [] us are = are
sound_back (t ∷ ts) us are = sound_back ts us are.2

pub sound_get : (ts : List Tree) (i : ℕ) → AreSound ts → (height (get_or ts i absent) ≤ most_levels) × (is_formed (get_or ts i absent) ≡ true)
sound_get [] i are = (omega arith, refl)
sound_get (t ∷ ts) zero are = (are.0, are.1)
sound_get (t ∷ ts) (suc i) are = sound_get ts i are.2

-- the tree at any place is low and formed
pub sound_at : (ts : List Tree) (at : ℕ) → AreSound ts → (height (tree_at ts at) ≤ most_levels) × (is_formed (tree_at ts at) ≡ true)
sound_at ts at are =
    ⊎_elim (λ (e : at ≡ no_parts). rw (at_row ts at e) (omega arith, refl)) (λ (n : at ≡ no_parts → ⊥). rw (at_tree ts at n) (sound_get ts at are)) (cases_eq at no_parts)

pub formed_at : (ts : List Tree) (places : List ℕ) → AreSound ts → are_formed (trees (trees_at ts places)) ≡ true
formed_at ts [] are = refl
formed_at ts (at ∷ places) are = and_from (is_formed (tree_at ts at)) (are_formed (trees (trees_at ts places))) ((sound_at ts at are).1) (formed_at ts places are)

-- places in a list, one after another
pub place_of : (ts : List Tree) (places : List ℕ) (i : ℕ) → ArePlaces ts places → i < length places → IsPlace ts (get_or places i 0)
place_of ts [] i are within = absurd (omega (arith, within))
place_of ts (at ∷ places) zero are within = are.0
place_of ts (at ∷ places) (suc i) are within = place_of ts places i are.1 (omega (arith, within))

pub height_of_more : (ts : List Tree) (places : List ℕ) (i : ℕ) → i < length places → list_height (trees_at ts (take (i + 1) places)) ≡ max (list_height (trees_at ts (take i places))) (height (tree_at ts (get_or places i 0)))
height_of_more ts places i within =
    ap list_height (map_more (tree_at ts) places i 0 within) ∙ height_of_one_more (trees_at ts (take i places)) (tree_at ts (get_or places i 0))

-- trees at any places are low
pub low_at : (ts : List Tree) (places : List ℕ) → AreSound ts → list_height (trees_at ts places) ≤ most_levels
low_at ts [] are = omega arith
low_at ts (at ∷ places) are =
    let first = (sound_at ts at are).0 in let others = low_at ts places are in omega (arith, first, others)
