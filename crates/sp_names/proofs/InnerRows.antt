-- Inner units and enums, a step further.
use Rattle.std.proofs.Common.{ℕ, ◌≡◌, ◌≤◌, refl, sym, ap, ◌∙◌, arith, List, [], ◌∷◌, ◌++◌}
use Rattle.std.proofs.lemmas.List.{append_assoc}
use Rattle.sp_ast.specs.Trees.{Tree, trees, trees_size}
use Rattle.sp_names.specs.declared.rows.Declaration.{Declaration}
use Rattle.sp_names.specs.Declarations.{rows_of, inner_in, inner_among}

of_both : (m : ℕ) (xs ys : List Tree) → rows_of m (xs ++ ys) ≡ rows_of m xs ++ rows_of m ys
of_both m [] ys = refl
of_both m (x ∷ xs) ys = ap (λ l. (let d : Declaration = record { «module» = m; tree = x } in d) ∷ l) (of_both m xs ys)

-- a list with those of a part, and with those of what is behind it
pub both : (m : ℕ) (xs ys : List Tree) (old mid new : List Declaration) → mid ≡ old ++ rows_of m xs → new ≡ mid ++ rows_of m ys → new ≡ old ++ rows_of m (xs ++ ys)
both m xs ys old mid new e f =
    f
    ∙ ap (λ l. l ++ rows_of m ys) e
    ∙ append_assoc old (rows_of m xs) (rows_of m ys)
    ∙ ap (λ l. old ++ l) (sym (of_both m xs ys))

pub one_part : (m : ℕ) (t : Tree) (ts left : List Tree) (old new : List Declaration) → left ≡ t ∷ ts → new ≡ old ++ rows_of m (inner_in t)
    → new ++ rows_of m (inner_among (trees ts)) ≡ old ++ rows_of m (inner_among (trees left))
one_part m t ts left old new e f =
    both m (inner_in t) (inner_among (trees ts)) old new (new ++ rows_of m (inner_among (trees ts))) f refl
    ∙ ap (λ l. old ++ rows_of m (inner_among (trees l))) (sym e)

pub less_behind : (t : Tree) (ts left : List Tree) (n : ℕ) → left ≡ t ∷ ts → trees_size (trees left) ≤ n → trees_size (trees ts) ≤ n
less_behind t ts left n e le = (let s = ap (λ l. trees_size (trees l)) e in omega (arith, s, le))
