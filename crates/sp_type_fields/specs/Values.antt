-- What constant expressions are worth.
use Rattle.std.specs.Prelude.{ℕ, List, Option}
use Rattle.sp_typed.specs.Exprs.{Expr}

pub record Values : Type 0 where
  -- the number of a constant, and the number that the value of an enum has
  pub number : Expr → Option ℕ
  -- the bytes that a constant is
  pub bytes : Expr → Option (List ℕ)
  -- what stands between the slashes of a constant that is a regular expression
  pub regex : Expr → Option (List ℕ)
