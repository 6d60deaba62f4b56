-- Whether an expression calls a method of a unit: whether some node of it does.
use Rattle.std.specs.Prelude.{ℕ, ◌==◌, Bool, false, ◌||◌, Option, Some, None}
use Rattle.sp_typed.specs.declared.words.UnitMethod.{UnitMethod}
use Rattle.sp_typed.specs.declared.words.UnitMethod.TheVariants as method_is
use Rattle.sp_typed.specs.declared.words.ManyOp.{ManyOp}
use Rattle.sp_typed.specs.declared.words.ManyOp.TheVariants as many_is
use Rattle.sp_typed.specs.Exprs.{Expr, Exprs, leaf, one, two, three, many, none, more}

-- the place of a method among the methods of units
abbrev pub method_number : UnitMethod → ℕ
method_number method_is.Offset = 0
method_number method_is.Input = 1
method_number method_is.SetInput = 2
method_number method_is.Backtrack = 3
method_number method_is.ConnectFilter = 4
method_number method_is.Forward = 5
method_number method_is.ForwardEod = 6

abbrev pub is_same : UnitMethod → UnitMethod → Bool
is_same k m = method_number k == method_number m

-- a call of the method
abbrev pub op_calls : UnitMethod → ManyOp → Bool
op_calls k (many_is.OfUnit m span) = is_same k m
op_calls k _ = false

-- a call of it anywhere in an expression
abbrev mutual
  pub expr_calls : UnitMethod → Expr → Bool
  expr_calls k (leaf h) = false
  expr_calls k (one h a) = expr_calls k a
  expr_calls k (two h a b) = expr_calls k a || expr_calls k b
  expr_calls k (three h a b c) = expr_calls k a || (expr_calls k b || expr_calls k c)
  expr_calls k (many h es) = op_calls k h.op || exprs_call k es

  pub exprs_call : UnitMethod → Exprs → Bool
  exprs_call k none = false
  exprs_call k (more e es) = expr_calls k e || exprs_call k es

-- a call of it in an expression that may be left out
abbrev pub option_calls : UnitMethod → Option Expr → Bool
option_calls k None = false
option_calls k (Some e) = expr_calls k e
