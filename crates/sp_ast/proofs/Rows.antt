-- Rows of trees as lists.
use Rattle.std.specs.Prelude.{◌&&◌}
use Rattle.std.specs.List.{list_all}
use Rattle.std.proofs.Common.{◌≡◌, List, [], ◌∷◌, refl, ap}
use Rattle.sp_ast.specs.Trees.{Tree, trees}
use Rattle.sp_ast.specs.declared.groups.Group.{Group}
use Rattle.sp_ast.specs.Groups.{is_of, are_of}

pub are_all : (g : Group) (ts : List Tree) → are_of g (trees ts) ≡ list_all (is_of g) ts
are_all g [] = refl
are_all g (t ∷ ts) = ap (λ z. is_of g t && z) (are_all g ts)
