-- What is known of the constants and the labels that an expression names.
use Rattle.std.specs.Prelude.{ℕ}
use Rattle.sp_type_constants.specs.declared.outcome.Outcome.{Outcome}

pub record Known : Type 0 where
  -- the constant of a number
  pub constant : ℕ → Outcome
  -- the label of an enum, both by their numbers
  pub label : ℕ → ℕ → Outcome
