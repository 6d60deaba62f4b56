-- Calls, by what stands before the arguments.
use Rattle.std.specs.Prelude.{Result, Ok, Err, IfOk}
use Rattle.std.proofs.Common.{ℕ, ◌+◌, ◌≤◌, ◌≡◌, true, false, List, [], ◌∷◌, ◌++◌, append_assoc, refl, ap, sym, ◌∙◌, arith}
use Rattle.sp_base.specs.declared.places.Span.{Span}
use Rattle.sp_ast.specs.Trees.{Tree, tree, in_row, trees, node, tree_size, trees_size}
use Rattle.sp_ast.specs.declared.forms.Form.TheVariants as form_is
use Rattle.sp_ast.specs.declared.forms.ExprForm.TheVariants as expr_is
use Rattle.sp_typed.specs.Exprs.{Expr}
use Rattle.sp_type_context.specs.Contexts.{Around}
use Rattle.sp_type_context.specs.Typing.{typed, typed_all, pairs_typed, method_at, call_at, is_member}

abbrev pub call : Span → Tree → List Tree → Tree
call span callee args = tree (form_is.Expr expr_is.Call) span (callee ∷ in_row args ∷ [])

pub call_of_member : (g : Around) (span s : Span) (object name callee : Tree) (args : List Tree) → tree (form_is.Expr expr_is.Member) s (object ∷ name ∷ []) ≡ callee → method_at g span s name (typed g object) (typed_all g (trees args)) ≡ typed g (call span callee args)
call_of_member g span s object name callee args is = ap (λ t. typed g (call span t args)) is

pub call_of_other : (g : Around) (span : Span) (callee : Tree) (args : List Tree) → is_member callee ≡ false → call_at g span (typed g callee) (typed_all g (trees args)) ≡ typed g (call span callee args)
call_of_other g span (node (form_is.Expr expr_is.Member) s ts) args is = absurd (let z : true ≡ false = is in let b : ⊥ = (cc) in b)
call_of_other g span _ args is = refl

pub ok_is : {E : Type 0} (r : Result Expr E) (x y : Expr) → x ≡ y → IfOk r (λ e. e ≡ x) → IfOk r (λ e. e ≡ y)
ok_is (Ok e) x y same is = is ∙ same
ok_is (Err e) x y same is = tt

-- one more tree
pub tree_step : (g : Around) (all new : List Expr) (left behind : List Tree) (t : Tree) (x : Expr) (whole : List Expr) → left ≡ t ∷ behind → x ≡ typed g t → new ≡ all ++ x ∷ [] → all ++ typed_all g (trees left) ≡ whole → new ++ typed_all g (trees behind) ≡ whole
tree_step g all new left behind t x whole steps item push so_far =
    ap (λ es. es ++ typed_all g (trees behind)) push
    ∙ append_assoc all (x ∷ []) (typed_all g (trees behind))
    ∙ ap (λ y. all ++ y ∷ typed_all g (trees behind)) item
    ∙ ap (λ ts. all ++ typed_all g (trees ts)) (sym steps)
    ∙ so_far

-- one more pair
pub pair_step : (g : Around) (all new : List (Expr × Expr)) (left behind : List Tree) (pair k v : Tree) (s : Span) (x y : Expr) (whole : List (Expr × Expr)) → left ≡ pair ∷ behind → tree form_is.Pair s (k ∷ v ∷ []) ≡ pair → x ≡ typed g k → y ≡ typed g v → new ≡ all ++ (x, y) ∷ [] → all ++ pairs_typed g (trees left) ≡ whole → new ++ pairs_typed g (trees behind) ≡ whole
pair_step g all new left behind pair k v s x y whole steps is key value push so_far =
    ap (λ ps. ps ++ pairs_typed g (trees behind)) push
    ∙ append_assoc all ((x, y) ∷ []) (pairs_typed g (trees behind))
    ∙ ap (λ z. all ++ (z, y) ∷ pairs_typed g (trees behind)) key
    ∙ ap (λ z. all ++ (typed g k, z) ∷ pairs_typed g (trees behind)) value
    ∙ ap (λ t. all ++ pairs_typed g (trees (t ∷ behind))) is
    ∙ ap (λ ts. all ++ pairs_typed g (trees ts)) (sym steps)
    ∙ so_far

pub less_behind : (left behind : List Tree) (t : Tree) (n : ℕ) → left ≡ t ∷ behind → trees_size (trees left) ≤ n → trees_size (trees behind) ≤ n
less_behind left behind t n is less =
    let same : trees_size (trees left) ≡ tree_size t + 1 + trees_size (trees behind) = ap (λ ts. trees_size (trees ts)) is in omega (arith, less, same)
