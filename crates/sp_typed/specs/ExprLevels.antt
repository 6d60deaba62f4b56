-- The expression of which one level is lent, or taken apart.
use Rattle.sp_typed.specs.Exprs.{Expr, leaf, one, two, three, many, exprs}
use Rattle.sp_typed.specs.declared.exprs.ExprLevel.{ExprLevel}
use Rattle.sp_typed.specs.declared.exprs.ExprLevel.TheVariants as level_is
use Rattle.sp_typed.specs.declared.exprs.ExprParts.{ExprParts}
use Rattle.sp_typed.specs.declared.exprs.ExprParts.TheVariants as parts_are

abbrev pub level_expr : ExprLevel → Expr
level_expr (level_is.Leaf h) = leaf h.now
level_expr (level_is.One h a) = one h.now a.now
level_expr (level_is.Two h a b) = two h.now a.now b.now
level_expr (level_is.Three h a b c) = three h.now a.now b.now c.now
level_expr (level_is.Many h es) = many h.now (exprs es.now)

abbrev pub expr_of_parts : ExprParts → Expr
expr_of_parts (parts_are.Leaf h) = leaf h
expr_of_parts (parts_are.One h a) = one h a
expr_of_parts (parts_are.Two h a b) = two h a b
expr_of_parts (parts_are.Three h a b c) = three h a b c
expr_of_parts (parts_are.Many h es) = many h (exprs es.items)
