-- Which expressions stand in an expression, by its alternative.
use Rattle.std.specs.Prelude.{Bool, true, false}
use Rattle.sp_ast.specs.declared.views.expr.ExprView.{ExprView}
use Rattle.sp_ast.specs.declared.views.expr.ExprView.TheVariants as view

-- a list of expressions or of pairs
abbrev pub has_list : ExprView → Bool
has_list (view.Tuple _) = true
has_list (view.Vector _) = true
has_list (view.Set _) = true
has_list (view.Map _) = true
has_list (view.New _ _) = true
has_list (view.Call _ _) = true
has_list _ = false

-- one, two or three expressions
abbrev pub has_operands : ExprView → Bool
has_operands (view.Cast _ _) = true
has_operands (view.Size _) = true
has_operands (view.Choice _ _ _) = true
has_operands (view.Member _ _) = true
has_operands (view.SetMember _ _) = true
has_operands (view.Index _ _) = true
has_operands (view.Unary _ _) = true
has_operands (view.Binary _ _ _) = true
has_operands _ = false
