-- A declaration that is a hook.
use Rattle.std.proofs.Common.{ℕ, ◌≡◌, ◌<◌, ◌+◌, zero, suc, refl, subst, sym, ap, ◌∙◌, arith, List, [], ◌∷◌, ◌++◌, length, drop, get_or}
use Rattle.sp_base.specs.declared.places.Span.{Span}
use Rattle.sp_ast.specs.Trees.{Tree, tree}
use Rattle.sp_ast.specs.declared.forms.Form.TheVariants as form_is
use Rattle.sp_ast.specs.declared.forms.DeclForm.TheVariants as decl_is
use Rattle.sp_type_hook_rows.specs.declared.sites.Holder.TheVariants as holder_is
use Rattle.sp_names.specs.declared.rows.Declaration.{Declaration}
use Rattle.sp_names.specs.Declarations.{number_at}
use Rattle.sp_type_hook_rows.specs.Sites.{site, sites_of, sites_from}

pub on_site : (m n : ℕ) (span : Span) (parts : List Tree) (t : Tree) → tree (form_is.Decl decl_is.On) span parts ≡ t → sites_of m n t ≡ site m 0 (holder_is.Declaration t)
on_site m n span parts t e = subst (λ x. sites_of m n x ≡ site m 0 (holder_is.Declaration x)) e refl

-- the next of a row
drop_here : {X : Type 0} (xs : List X) (i : ℕ) (x : X) → i < length xs → x ≡ get_or xs i x → drop i xs ≡ x ∷ drop (suc i) xs
drop_here [] i x lt e = absurd (let z : ⊥ = omega (arith, lt) in z)
drop_here (y ∷ xs) zero x lt e = ap (λ z. z ∷ xs) (sym e)
drop_here (y ∷ xs) (suc i) x lt e = drop_here xs i x (omega (arith, lt)) e

-- what stands in one declaration more
pub sites_next : (list : List Tree) (ds : List Declaration) (g : ℕ) (d : Declaration) → g < length ds → d ≡ get_or ds g d
    → sites_from list g (drop g ds) ≡ sites_of d.«module» (number_at list g) d.tree ++ sites_from list (g + 1) (drop (g + 1) ds)
sites_next list ds g d lt e =
    let s : suc g ≡ g + 1 = omega arith in
    ap (sites_from list g) (drop_here ds g d lt e) ∙ ap (λ n. sites_of d.«module» (number_at list g) d.tree ++ sites_from list n (drop n ds)) s
