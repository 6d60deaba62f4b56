-- What passes the test fits in every program of its list.
use Rattle.std.specs.Prelude.{ℕ, Option, IsTrue}
use Rattle.sp_typed.specs.Exprs.{Expr, Exprs}
use Rattle.sp_typed_units.specs.declared.declarations.Typed.{Typed}
use Rattle.sp_law_lists.specs.fit_expr.Around.{Around, locals_in}
use Rattle.sp_law_lists.specs.fit_expr.Test.{expr_passes, exprs_pass, place_passes}
use Rattle.sp_law_lists.specs.fit_expr.Constants.{constants_pass}
use Rattle.sp_law_lists.specs.fit_expr.Passes.{ConstantsFit, ExprPasses, ExprsPass, PlacePasses}

-- An expression that passes the test fits in every program of its list, it is built of what has a meaning, its literals are of their
-- types, calls in it have as many arguments as parameters, and what it changes is a place. So it is with each of several.
abbrev pub PassingExpressionsFitOne : Type 0
PassingExpressionsFitOne =
    (around : Around) (e : Expr) → IsTrue (expr_passes around e)
    → ExprPasses around.list around.places (locals_in around) around.unit e

abbrev pub PassingExpressionsFitSeveral : Type 0
PassingExpressionsFitSeveral =
    (around : Around) (es : Exprs) → IsTrue (exprs_pass around es)
    → ExprsPass around.list around.places (locals_in around) around.unit es

-- So it is with a place that is changed, where the owner of its member may be kept in a local.
abbrev pub PassingPlacesFit : Type 0
PassingPlacesFit =
    (around : Around) (owner : Option ℕ) (e : Expr) → IsTrue (place_passes around owner e)
    → PlacePasses around.list around.places (locals_in around) around.unit owner e

-- Where constants pass, each that has a value has one of the kind of its type.
abbrev pub PassingConstantsFit : Type 0
PassingConstantsFit =
    (list : Typed) → IsTrue (constants_pass list.constants) → ConstantsFit list
