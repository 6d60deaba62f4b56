-- The height of trees in a list: that of one more, and in the other order.
use Rattle.std.proofs.Common.{◌≡◌, List, [], ◌∷◌, ◌++◌, max, refl, ap, ◌∙◌, arith, reverse}
use Rattle.std.proofs.Math.Nat.{max_comm}
use Rattle.std.proofs.lemmas.List.{reverse-append}
use Rattle.sp_ast.specs.Trees.{Tree}
use Rattle.sp_ast.specs.Heights.{height, list_height}

pub height_of_one_more : (ts : List Tree) (t : Tree) → list_height (ts ++ t ∷ []) ≡ max (list_height ts) (height t)
height_of_one_more [] t = max_comm (height t) 0
height_of_one_more (u ∷ ts) t = let rest = height_of_one_more ts t in omega (arith, rest)

pub height_of_reverse : (ts : List Tree) → list_height (reverse ts) ≡ list_height ts
height_of_reverse [] = refl
height_of_reverse (t ∷ ts) =
    ap list_height (reverse-append (t ∷ []) ts) ∙ height_of_one_more (reverse ts) t ∙ ap (λ n. max n (height t)) (height_of_reverse ts) ∙ max_comm (list_height ts) (height t)
