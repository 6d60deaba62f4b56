-- A step of the loop over a row of parameters.
use Rattle.std.proofs.Common.{◌≡◌, sym, ap, ◌∙◌, List, [], ◌∷◌, ◌++◌}
use Rattle.std.proofs.lemmas.List.{append_assoc}
use Rattle.sp_base.specs.declared.places.Span.{Span}
use Rattle.sp_ast.specs.Trees.{Tree, trees}
use Rattle.sp_ast.specs.TypeViews.{parameter_tree}
use Rattle.sp_ast.specs.declared.views.types.ParameterView.{ParameterView}
use Rattle.sp_typed_units.specs.declared.declarations.Parameter.{Parameter}
use Rattle.sp_type_context.specs.Contexts.{Around}
use Rattle.sp_type_scopes.specs.Parameters.{parameter_of, parameters_in}

pub one_parameter : (g : Around) (left behind : List Tree) (t : Tree) (span : Span) (v : ParameterView) (p : Parameter) (old new all : List Parameter)
    → left ≡ t ∷ behind → parameter_tree span v ≡ t → p ≡ parameter_of g v.inout v.name v.type_ → new ≡ old ++ p ∷ []
    → old ++ parameters_in g (trees left) ≡ all → new ++ parameters_in g (trees behind) ≡ all
one_parameter g left behind t span v p old new all e view is pushed rest =
    ap (λ l. l ++ parameters_in g (trees behind)) pushed
    ∙ append_assoc old (p ∷ []) (parameters_in g (trees behind))
    ∙ ap (λ q. old ++ q ∷ parameters_in g (trees behind)) is
    ∙ ap (λ s. old ++ parameters_in g (trees (s ∷ behind))) view
    ∙ ap (λ l. old ++ parameters_in g (trees l)) (sym e)
    ∙ rest
