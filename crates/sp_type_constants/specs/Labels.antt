-- What declared constants and labels are, by their values.
use Rattle.std.specs.Prelude.{ℕ, ◌+◌, ◌^◌, Bool, true, false, nat_lt, Option, Some, None, if◌then◌else◌}
use Rattle.sp_value.specs.Val.{Val, uint, enum}
use Rattle.sp_types.specs.Types.{Ty, same}
use Rattle.sp_typed.specs.Exprs.{Expr, type_of}
use Rattle.sp_type_constants.specs.declared.outcome.Outcome.{Outcome}
use Rattle.sp_type_constants.specs.declared.outcome.Outcome.TheVariants.{Value, Regex, NotConstant, Error, Unknown}
use Rattle.sp_type_constants.specs.Outcomes.{of_one}
use Rattle.sp_type_constants.specs.Known.{Known}
use Rattle.sp_type_constants.specs.Values.{value_of}

-- a label with a number, which is an unsigned integer
abbrev pub numbered : ℕ → Val → Outcome
numbered owner (uint w n) = Value (enum owner n)
numbered owner _ = Unknown

abbrev pub label_value : ℕ → Outcome → Outcome
label_value owner o = of_one (numbered owner) o

-- The first label without a number has 0, and each other has one more than the label before it. Past 2 to the power of 64
-- the label itself breaks a rule.
abbrev pub first_label : ℕ → Outcome
first_label owner = Value (enum owner 0)

abbrev pub one_more : ℕ → Val → Outcome
one_more owner (enum kind n) = if nat_lt (n + 1) (2 ^ 64) then Value (enum owner (n + 1)) else Unknown
one_more owner _ = Unknown

abbrev pub next_label : ℕ → Outcome → Outcome
next_label owner o = of_one (one_more owner) o

-- a value or a regular expression of another type than the written one breaks another rule
abbrev pub fitting : Bool → Outcome → Outcome
fitting false (Value v) = Unknown
fitting false (Regex t) = Unknown
fitting fits o = o

abbrev pub fits_written : Option Ty → Ty → Bool
fits_written None t = true
fits_written (Some w) t = same w t

-- a declared constant, by the type that is written, if there is one, and by its value, which was brought to that type
abbrev pub constant_value : Known → Option Ty → Expr → Outcome
constant_value k written e = fitting (fits_written written (type_of e)) (value_of k e)
