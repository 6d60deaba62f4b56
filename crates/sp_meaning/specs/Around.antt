-- What stands round an expression of a body.
use Rattle.std.specs.Prelude.{ℕ, ◌-◌, List, length, Option, None, nat_lt, slice_get, unwrap_or, if◌then◌else◌}
use Rattle.sp_value.specs.Val.{Val, void}
use Rattle.sp_meaning_states.specs.States.{State, parameter_of}

-- a body's own arguments, `$$`, and the offset of the field or the element at hand
pub record Around : Type 0 where
  pub arguments : List Val
  pub current : Option Val
  pub offset : Option Val

-- a body that has these arguments, and neither `$$` nor a field at hand
abbrev pub with_arguments : List Val → Around
with_arguments vs = record { arguments = vs; current = None; offset = None }

-- a parameter by its number: a body's own come before those of its unit
abbrev pub parameter_in : Around → ℕ → State → Val
parameter_in around n st = if nat_lt n (length around.arguments) then unwrap_or (slice_get around.arguments n) void else parameter_of st (n - length around.arguments)
