-- Where a body keeps what it sees.
use Rattle.std.specs.Prelude.{ℕ, ◌-◌, Option, nat_lt, if◌then◌else◌}
use Rattle.sp_value.specs.Val.{Val}
use Rattle.sp_meaning_states.specs.States.{State, local_of, parameter_of}

-- Where a body keeps what it sees: its own parameters are its first locals, and parameters behind these are the unit's; `$$` is a
-- local, and so is the offset of the field at hand, where there is one; its slots are the locals from a number on.
pub record Layout : Type 0 where
  pub own : ℕ
  pub current : ℕ
  pub offset : Option ℕ
  pub first : ℕ

abbrev pub parameter_in : Layout → ℕ → State → Val
parameter_in layout n st = if nat_lt n layout.own then local_of st n else parameter_of st (n - layout.own)
