-- Values of variables, whose literals their types have room for, as those of a list that breaks no rule.
use Rattle.std.specs.Prelude.{List, [], ◌∷◌, Option, Some, None}
use Rattle.sp_typed.specs.Exprs.{Expr}
use Rattle.sp_typed_units.specs.declared.declarations.Variable.{Variable}
use Rattle.sp_lower_expr.specs.Literals.{LiteralsFit}

-- the value that a variable has of its own, if it has one
abbrev pub ValueFits : Option Expr → Type 0
ValueFits None = Unit {0}
ValueFits (Some e) = LiteralsFit e

-- so are those of several variables
abbrev pub ValuesFit : List Variable → Type 0
ValuesFit [] = Unit {0}
ValuesFit (v ∷ vs) = ValueFits v.value × ValuesFit vs
