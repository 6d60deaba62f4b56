-- One more attribute.
use Rattle.std.proofs.Common.{ℕ, ◌+◌, ◌≤◌, ◌≡◌, List, [], ◌∷◌, ◌++◌, Option, append_assoc, ap, sym, ◌∙◌, arith}
use Rattle.sp_base.specs.declared.places.Span.{Span}
use Rattle.sp_words.specs.declared.words.AttributeName.{AttributeName}
use Rattle.sp_ast.specs.Trees.{Tree, tree, trees, span_of, tree_size, trees_size}
use Rattle.sp_ast.specs.Views.{optional_tree, present}
use Rattle.sp_ast.specs.declared.forms.Form.TheVariants as form_is
use Rattle.sp_typed_units.specs.declared.attributes.Attribute.{Attribute}
use Rattle.sp_type_context.specs.Contexts.{Around}
use Rattle.sp_type_fields.specs.declared.attributes.Site.{Site}
use Rattle.sp_type_fields.specs.Roles.{role_of}
use Rattle.sp_type_fields.specs.Values.{Values}
use Rattle.sp_type_fields.specs.Attributes.{attribute_by, attributes}

pub attributes_step : (g : Around) (v : Values) (s : Site) (all new : List Attribute) (left behind : List Tree) (t : Tree) (name : AttributeName) (span : Span) (value : Option Tree) (a : Attribute) (whole : List Attribute)
    → left ≡ t ∷ behind → span ≡ span_of t → tree (form_is.Attribute name) (span_of t) (optional_tree value ∷ []) ≡ t → present (optional_tree value) ≡ value
    → a ≡ attribute_by g v s (role_of s.kind name) span name value → new ≡ all ++ a ∷ []
    → all ++ attributes g v s (trees left) ≡ whole → new ++ attributes g v s (trees behind) ≡ whole
attributes_step g v s all new left behind t name span value a whole steps at view there is push so_far =
    let rest = attributes g v s (trees behind) in
    let one : Span → Option Tree → Attribute = λ sp o. attribute_by g v s (role_of s.kind name) sp name o in
    ap (λ l. l ++ rest) push
    ∙ append_assoc all (a ∷ []) rest
    ∙ ap (λ z. all ++ z ∷ rest) is
    ∙ ap (λ sp. all ++ one sp value ∷ rest) at
    ∙ ap (λ o. all ++ one (span_of t) o ∷ rest) (sym there)
    ∙ ap (λ x. all ++ attributes g v s (trees (x ∷ behind))) view
    ∙ ap (λ ts. all ++ attributes g v s (trees ts)) (sym steps)
    ∙ so_far

pub less_behind : (left behind : List Tree) (t : Tree) (n : ℕ) → left ≡ t ∷ behind → trees_size (trees left) ≤ n → trees_size (trees behind) ≤ n
less_behind left behind t n is less =
    let same : trees_size (trees left) ≡ tree_size t + 1 + trees_size (trees behind) = ap (λ ts. trees_size (trees ts)) is in omega (arith, less, same)
