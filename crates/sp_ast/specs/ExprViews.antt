-- The expressions of which views are: each with its parts in the order of the text.
use Rattle.std.specs.Prelude.{List, [], ◌∷◌}
use Rattle.sp_base.specs.declared.places.Span.{Span}
use Rattle.sp_ast.specs.Trees.{Tree, tree, in_row}
use Rattle.sp_ast.specs.declared.forms.ExprForm.{ExprForm}
use Rattle.sp_ast.specs.declared.forms.ExprForm.TheVariants as expr_is
use Rattle.sp_ast.specs.declared.forms.Form.TheVariants as form_is
use Rattle.sp_ast.specs.declared.views.expr.ExprView.{ExprView}
use Rattle.sp_ast.specs.declared.views.expr.ExprView.TheVariants as view
use Rattle.sp_ast.specs.declared.views.expr.PairView.{PairView}

-- an expression of this alternative
abbrev expr : ExprForm → Span → List Tree → Tree
expr form span parts = tree (form_is.Expr form) span parts

abbrev pub expr_tree : Span → ExprView → Tree
expr_tree span (view.Path path) = expr expr_is.Path span (path ∷ [])
expr_tree span view.Itself = expr expr_is.Itself span []
expr_tree span view.Current = expr expr_is.Current span []
expr_tree span view.True = expr expr_is.True span []
expr_tree span view.False = expr expr_is.False span []
expr_tree span (view.Number n) = expr (expr_is.Number n) span []
expr_tree span (view.String text) = expr (expr_is.String text.now) span []
expr_tree span (view.Bytes bytes) = expr (expr_is.Bytes bytes.now) span []
expr_tree span (view.Regex text) = expr (expr_is.Regex text.now) span []
expr_tree span (view.Tuple members) = expr expr_is.Tuple span members
expr_tree span (view.Vector elements) = expr expr_is.Vector span elements
expr_tree span (view.Set elements) = expr expr_is.Set span elements
expr_tree span (view.Map pairs) = expr expr_is.Map span pairs
expr_tree span (view.EmptyVector element) = expr expr_is.EmptyVector span (element ∷ [])
expr_tree span (view.EmptySet element) = expr expr_is.EmptySet span (element ∷ [])
expr_tree span (view.EmptyMap key value) = expr expr_is.EmptyMap span (key ∷ value ∷ [])
expr_tree span (view.TypedNumber word number) = expr (expr_is.TypedNumber word) span (number ∷ [])
expr_tree span (view.Cast target operand) = expr expr_is.Cast span (target ∷ operand ∷ [])
expr_tree span (view.New path arguments) = expr expr_is.New span (path ∷ in_row arguments ∷ [])
expr_tree span (view.Size operand) = expr expr_is.Size span (operand ∷ [])
expr_tree span (view.Choice condition if_true if_false) = expr expr_is.Choice span (condition ∷ if_true ∷ if_false ∷ [])
expr_tree span (view.Member object name) = expr expr_is.Member span (object ∷ name ∷ [])
expr_tree span (view.SetMember object name) = expr expr_is.SetMember span (object ∷ name ∷ [])
expr_tree span (view.Index object index) = expr expr_is.Index span (object ∷ index ∷ [])
expr_tree span (view.Call callee arguments) = expr expr_is.Call span (callee ∷ in_row arguments ∷ [])
expr_tree span (view.Unary operator operand) = expr (expr_is.Unary operator) span (operand ∷ [])
expr_tree span (view.Binary operator left right) = expr (expr_is.Binary operator) span (left ∷ right ∷ [])

abbrev pub pair_tree : Span → PairView → Tree
pair_tree span pair = tree form_is.Pair span (pair.key ∷ pair.value ∷ [])
