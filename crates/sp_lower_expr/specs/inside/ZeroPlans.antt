-- What a walk into a type leads to that finds the value with which a variable of it begins.
use Rattle.std.specs.Prelude.{ℕ, List}
use Rattle.sp_value.specs.Val.{Val, tuple, vals_of}
use Rattle.sp_meaning_states.specs.Types.{zero_value}
use Rattle.sp_emit.specs.Plans.{Plan, run}

-- the values behind all of what is left to do: only tuples are made of the values of their parts
abbrev pub zeros_behind : List ℕ → List Plan → List Val → List Val
zeros_behind ranges = run (zero_value ranges) (λ maker vs. tuple (vals_of vs))
