use Rattle.std.specs.Prelude.{Some}
use Rattle.std.proofs.Common.{◌≡◌, [], ◌∷◌, subst, sym, ◌∙◌}
use Rattle.sp_ast.specs.Trees.{Tree}
use Rattle.sp_build.specs.Items.{built}
use Rattle.sp_build.specs.Building.{IsBuilt}
use Rattle.sp_build.proofs.laws.tree_is_one.Goals as goal

same_tree : (t u : Tree) → Some (built t ∷ []) ≡ Some (built u ∷ []) → t ≡ u
same_tree t u e = cc

pub returns : goal.returns
returns c = λ start text tokens m first second t u a b x y.
    let e = c.derivation_is_one.ensures start tokens m first second a b in
    let z : IsBuilt text tokens second t = subst (λ actions. IsBuilt text tokens actions t) e x in
    same_tree t u (sym z ∙ y)
