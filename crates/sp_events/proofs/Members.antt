-- The values inside a tree: each is smaller than the tree.
use Rattle.std.proofs.Common.{◌≡◌, ℕ, zero, suc, ◌+◌, ◌<◌, ◌≤◌, List, [], ◌∷◌, ◌++◌, length, get_or, sym, subst, arith}
use Rattle.sp_events.specs.Tree.{TreeData, trees_of, pairs_of, fields_of}
use Rattle.sp_events.specs.TreeSizes.{tree_size, trees_size, pairs_size, fields_size}

size_within : (ts : List TreeData) (i : ℕ) (d : TreeData) → i < length ts → tree_size (get_or ts i d) + 1 ≤ trees_size (trees_of ts)
size_within [] i d h = absurd (omega arith)
size_within (t ∷ ts) zero d h = omega arith
size_within (t ∷ ts) (suc i) d h = omega (arith, size_within ts i d (omega arith))

pair_size_within : (ps : List (TreeData × TreeData)) (i : ℕ) (d : TreeData × TreeData) → i < length ps → tree_size (get_or ps i d).0 + tree_size (get_or ps i d).1 + 2 ≤ pairs_size (pairs_of ps)
pair_size_within [] i d h = absurd (omega arith)
pair_size_within (p ∷ ps) zero d h = omega arith
pair_size_within (p ∷ ps) (suc i) d h = omega (arith, pair_size_within ps i d (omega arith))

field_size_within : (fs : List (List ℕ × TreeData)) (i : ℕ) (d : List ℕ × TreeData) → i < length fs → tree_size (get_or fs i d).1 + 1 ≤ fields_size (fields_of fs)
field_size_within [] i d h = absurd (omega arith)
field_size_within (f ∷ fs) zero d h = omega arith
field_size_within (f ∷ fs) (suc i) d h = omega (arith, field_size_within fs i d (omega arith))

pub size_of : (ts : List TreeData) (i : ℕ) (t : TreeData) → i < length ts → t ≡ get_or ts i t → tree_size t + 1 ≤ trees_size (trees_of ts)
size_of ts i t h is = let P : TreeData → Type 0 = λ x. tree_size x + 1 ≤ trees_size (trees_of ts) in subst P (sym is) (size_within ts i t h)

pub pair_size_of : (ps : List (TreeData × TreeData)) (i : ℕ) (p : TreeData × TreeData) → i < length ps → p ≡ get_or ps i p → tree_size p.0 + tree_size p.1 + 2 ≤ pairs_size (pairs_of ps)
pair_size_of ps i p h is = let P : TreeData × TreeData → Type 0 = λ x. tree_size x.0 + tree_size x.1 + 2 ≤ pairs_size (pairs_of ps) in subst P (sym is) (pair_size_within ps i p h)

pub field_size_of : (fs : List (List ℕ × TreeData)) (i : ℕ) (f : List ℕ × TreeData) → i < length fs → f ≡ get_or fs i f → tree_size f.1 + 1 ≤ fields_size (fields_of fs)
field_size_of fs i f h is = let P : List ℕ × TreeData → Type 0 = λ x. tree_size x.1 + 1 ≤ fields_size (fields_of fs) in subst P (sym is) (field_size_within fs i f h)

-- a tree that leaves the end of a row, or its front
pub sizes_both : (ts us : List TreeData) → trees_size (trees_of (ts ++ us)) ≡ trees_size (trees_of ts) + trees_size (trees_of us)
sizes_both [] us = omega arith
sizes_both (t ∷ ts) us = omega (arith, sizes_both ts us)

pub pair_sizes_both : (ps qs : List (TreeData × TreeData)) → pairs_size (pairs_of (ps ++ qs)) ≡ pairs_size (pairs_of ps) + pairs_size (pairs_of qs)
pair_sizes_both [] qs = omega arith
pair_sizes_both (p ∷ ps) qs = omega (arith, pair_sizes_both ps qs)

pub field_sizes_both : (fs gs : List (List ℕ × TreeData)) → fields_size (fields_of (fs ++ gs)) ≡ fields_size (fields_of fs) + fields_size (fields_of gs)
field_sizes_both [] gs = omega arith
field_sizes_both (f ∷ fs) gs = omega (arith, field_sizes_both fs gs)
