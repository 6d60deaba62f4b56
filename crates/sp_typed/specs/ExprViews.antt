-- The expression that one level of the code's is.
use Rattle.sp_typed.specs.Exprs.{Expr, leaf, one, two, three, many, exprs}
use Rattle.sp_typed.specs.declared.exprs.ExprNode.{ExprNode}
use Rattle.sp_typed.specs.declared.exprs.ExprNode.TheVariants.{Leaf, One, Two, Three, Many}

abbrev pub expr_of : ExprNode → Expr
expr_of (Leaf h) = leaf h
expr_of (One h a) = one h a.value
expr_of (Two h a b) = two h a.value b.value
expr_of (Three h a b c) = three h a.value b.value c.value
expr_of (Many h es) = many h (exprs es.items)
