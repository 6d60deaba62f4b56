-- Each expression inside one is smaller than it.
use Rattle.std.specs.Prelude.{◌≤◌, ◌+◌, List, [], ◌∷◌}
use Rattle.std.proofs.Common.{arith}
use denote.Param.Weighed.{most}
use Rattle.sp_typed.specs.Exprs.{Expr, exprs}
use Rattle.sp_typed.specs.inside.ExprCodes.{expr_size, exprs_size}
use Rattle.sp_typed.specs.ExprViews.{expr_of}
use Rattle.sp_typed.specs.declared.exprs.ExprNode.{ExprNode}
use Rattle.sp_typed.specs.declared.exprs.ExprNode.TheVariants.{Leaf, One, Two, Three, Many}
use Rattle.sp_typed.specs.declared.exprs.Expr.TheDeep.{deep-ExprNode}

pub most_le : (es : List Expr) → most (λ e. expr_size e + 1) es ≤ exprs_size (exprs es)
most_le [] = omega arith
most_le (e ∷ es) = omega (arith, most_le es)

pub deep-ExprNode-le : (n : ExprNode) → deep-ExprNode n ≤ expr_size (expr_of n)
deep-ExprNode-le (Leaf h) = omega arith
deep-ExprNode-le (One h a) = omega arith
deep-ExprNode-le (Two h a b) = omega arith
deep-ExprNode-le (Three h a b c) = omega arith
deep-ExprNode-le (Many h es) = omega (arith, most_le es.items)
