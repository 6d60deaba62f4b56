-- What stands round a statement.
use Rattle.std.specs.Prelude.{ℕ, Bool, List}
use Rattle.sp_types.specs.Types.{Ty}
use Rattle.sp_meaning_states.specs.Types.{kind_of_type}
use Rattle.sp_code.specs.Shapes.{Round, OfFunction, OfHook}
use Rattle.sp_law_lists.specs.fit_expr.Around.{Around}

-- How a body returns: that of a function with a value of a type, and that of a hook with whatever it has, which is one for each element
-- or isn't.
pub data Returns : Type 0 where
  Function : Ty → Returns
  Hook : (each : Bool) → Returns

-- what stands round the expressions of a body, and how it returns
pub record Body : Type 0 where
  pub around : Around
  pub returns : Returns

-- the round of a body that returns so
abbrev pub round_in : List ℕ → Returns → Round
round_in ranges (Function t) = OfFunction (kind_of_type ranges t)
round_in ranges (Hook each) = OfHook each
