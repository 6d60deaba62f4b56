-- The types of bitfields, a step further.
use Rattle.std.proofs.Common.{ℕ, ◌≡◌, ◌<◌, ◌≤◌, ◌+◌, suc, refl, sym, ap, ◌∙◌, arith, List, [], ◌∷◌, ◌++◌, length, drop, take, get_or}
use Rattle.std.proofs.lemmas.List.{append_assoc, length-take-le, take_more, drop_at}
use Rattle.sp_ast.specs.Trees.{Tree, trees, trees_size}
use Rattle.sp_names.specs.declared.rows.Bitfield.{Bitfield}
use Rattle.sp_names.specs.declared.bitfields.PlaceTable.{PlaceTable}
use Rattle.sp_names.specs.Declarations.{tree_or, module_at}
use Rattle.sp_names.specs.Types.{bitfields_in, bitfields_among, bitfields_of, bitfields_from, bitfields, first_placed}
use Rattle.sp_names.specs.Tables.{trees_of, ArePlaced, IsPlaces, placed_by}
use Rattle.sp_names.proofs.Lists.{here}

of_both : (m : ℕ) (xs ys : List Tree) → bitfields_of m (xs ++ ys) ≡ bitfields_of m xs ++ bitfields_of m ys
of_both m [] ys = refl
of_both m (x ∷ xs) ys = ap (λ l. (let b : Bitfield = record { «module» = m; tree = x } in b) ∷ l) (of_both m xs ys)

-- a list with those of a part, and with those of what is behind it
pub both : (m : ℕ) (xs ys : List Tree) (old mid new : List Bitfield) → mid ≡ old ++ bitfields_of m xs → new ≡ mid ++ bitfields_of m ys → new ≡ old ++ bitfields_of m (xs ++ ys)
both m xs ys old mid new e f =
    f
    ∙ ap (λ l. l ++ bitfields_of m ys) e
    ∙ append_assoc old (bitfields_of m xs) (bitfields_of m ys)
    ∙ ap (λ l. old ++ l) (sym (of_both m xs ys))

pub one_part : (m : ℕ) (t : Tree) (ts left : List Tree) (old new : List Bitfield) → left ≡ t ∷ ts → new ≡ old ++ bitfields_of m (bitfields_in t)
    → new ++ bitfields_of m (bitfields_among (trees ts)) ≡ old ++ bitfields_of m (bitfields_among (trees left))
one_part m t ts left old new e f =
    both m (bitfields_in t) (bitfields_among (trees ts)) old new (new ++ bitfields_of m (bitfields_among (trees ts))) f refl
    ∙ ap (λ l. old ++ bitfields_of m (bitfields_among (trees l))) (sym e)

pub less_behind : (t : Tree) (ts left : List Tree) (n : ℕ) → left ≡ t ∷ ts → trees_size (trees left) ≤ n → trees_size (trees ts) ≤ n
less_behind t ts left n e le = (let s = ap (λ l. trees_size (trees l)) e in omega (arith, s, le))

from_more : (m : ℕ) (ts : List Tree) (t : Tree) → bitfields_from m (ts ++ t ∷ []) ≡ bitfields_from m ts ++ bitfields_of (m + length ts) (bitfields_in t)
from_more m [] t = ap (λ n. bitfields_of n (bitfields_in t) ++ []) (let z : m ≡ m + 0 = omega arith in z) ∙ no_more (bitfields_of (m + 0) (bitfields_in t))
  where
    no_more : (xs : List Bitfield) → xs ++ [] ≡ xs
    no_more [] = refl
    no_more (x ∷ xs) = ap (λ l. x ∷ l) (no_more xs)
from_more m (x ∷ xs) t =
    ap (λ l. bitfields_of m (bitfields_in x) ++ l) (from_more (suc m) xs t)
    ∙ ap (λ n. bitfields_of m (bitfields_in x) ++ (bitfields_from (suc m) xs ++ bitfields_of n (bitfields_in t))) (let z : suc m + length xs ≡ m + length (x ∷ xs) = omega arith in z)
    ∙ sym (append_assoc (bitfields_of m (bitfields_in x)) (bitfields_from (suc m) xs) (bitfields_of (m + length (x ∷ xs)) (bitfields_in t)))

pub one_module : (list : List Tree) (i : ℕ) (t : Tree) (k : ℕ) (old new : List Bitfield) → i < length list → k ≡ i → t ≡ get_or list i t → old ≡ bitfields (take i list) → new ≡ old ++ bitfields_of k (bitfields_in t)
    → new ≡ bitfields (take (i + 1) list)
one_module list i t k old new lt n e o f =
    let long : k ≡ 0 + length (take i list) = (let l = length-take-le i list (omega (arith, lt)) in omega (arith, n, l)) in
    f
    ∙ ap (λ l. l ++ bitfields_of k (bitfields_in t)) o
    ∙ ap (λ j. bitfields (take i list) ++ bitfields_of j (bitfields_in t)) long
    ∙ ap (λ u. bitfields (take i list) ++ bitfields_of (0 + length (take i list)) (bitfields_in u)) e
    ∙ sym (from_more 0 (take i list) (get_or list i t))
    ∙ ap (bitfields_from 0) (sym (take_more list i t lt))

trees_back : (m : ℕ) (ts : List Tree) → trees_of (bitfields_of m ts) ≡ ts
trees_back m [] = refl
trees_back m (t ∷ ts) = ap (λ l. t ∷ l) (trees_back m ts)

pub places_of_module : (list : List Tree) (i : ℕ) (t : Tree) (k first : ℕ) (old new : List Bitfield) (table : PlaceTable) → i < length list → t ≡ get_or list i t → old ≡ bitfields (take i list)
    → first ≡ length old → new ≡ old ++ bitfields_of k (bitfields_in t) → ArePlaced first (trees_of (drop first new)) (placed_by table) → IsPlaces list i table
places_of_module list i t k first old new table lt e o n f placed = λ p. (
    let rest : drop first new ≡ bitfields_of k (bitfields_in t) = ap (drop first) f ∙ drop_at old (bitfields_of k (bitfields_in t)) first (sym n) in
    let at : module_at list i ≡ t = ap tree_or (here list i t lt) ∙ sym e in
    placed p
    ∙ ap (λ l. first_placed p first (trees_of l)) rest
    ∙ ap (first_placed p first) (trees_back k (bitfields_in t))
    ∙ ap (λ j. first_placed p j (bitfields_in t)) (n ∙ ap length o)
    ∙ ap (λ u. first_placed p (length (bitfields (take i list))) (bitfields_in u)) (sym at))
