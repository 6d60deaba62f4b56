-- The parts of a tree by their places.
use Rattle.std.proofs.Common.{◌≡◌, ◌+◌, ◌≤◌, ◌==◌, List, [], ◌∷◌, length, Bool, ap, ◌∙◌, arith}
use Rattle.sp_ast.specs.Trees.{Tree, trees, in_row, tree_size, trees_size}
use Rattle.sp_print.specs.Canonical.{is_empty_row}

pub empty_row : (ts : List Tree) (b : Bool) → b ≡ (length ts == 0) → b ≡ is_empty_row (in_row ts)
empty_row [] b e = e
empty_row (t ∷ ts) b e = e ∙ grind arith

-- what stands behind a part is smaller than all
pub less_behind : (left behind : List Tree) (t : Tree) (all : List Tree) → left ≡ t ∷ behind → trees_size (trees left) ≤ trees_size (trees all) → trees_size (trees behind) ≤ trees_size (trees all)
less_behind left behind t all is less =
    let same : trees_size (trees left) ≡ tree_size t + 1 + trees_size (trees behind) = ap (λ ts. trees_size (trees ts)) is in omega (arith, less, same)
