-- Bounds of a repetition: how far they are read, and what the next byte leads to. For private functions.
use Rattle.std.specs.Prelude.{ℕ, ◌+◌, ◌*◌, ◌==◌, Option, Some, None, nat_le, if◌then◌else◌}
use Rattle.sp_regex.specs.declared.bounds.BoundsPlace.{BoundsPlace}
use Rattle.sp_regex.specs.declared.bounds.BoundsPlace.TheVariants.{Start, Least, Comma, Most}
use Rattle.sp_regex.specs.declared.bounds.BoundsStep.{BoundsStep}
use Rattle.sp_regex.specs.declared.bounds.BoundsStep.TheVariants.{Goes, Ends, Refused}
use Rattle.sp_regex.specs.declared.tree.Count.{Count}
use Rattle.sp_regex.specs.Bytes.{decimal_value}

-- a number with one digit more, if it is at most 255
abbrev pub with_digit : ℕ → ℕ → Option ℕ
with_digit n d = if nat_le (n * 10 + d) 255 then Some (n * 10 + d) else None

-- the greatest number up to 255 whose digits begin with those of n, or are these
abbrev pub greatest_from : ℕ → ℕ
greatest_from n =
    if n == 0 then 255 else if n == 2 then 255 else if n == 1 then 199 else
    if n == 25 then 255 else if nat_le n 25 then 10 * n + 9 else n

abbrev pub exactly : ℕ → Option ℕ → Count
exactly n m = record { least = n; most = m }

abbrev pub most_step : ℕ → Option ℕ → BoundsStep
most_step n (Some m) = if nat_le n (greatest_from m) then Goes (Most n m) else Refused
most_step n None = Refused

abbrev pub least_step : Option ℕ → BoundsStep
least_step (Some n) = Goes (Least n)
least_step None = Refused

-- a further digit
abbrev pub digit_step : BoundsPlace → ℕ → BoundsStep
digit_step Start d = Goes (Least d)
digit_step (Least n) d = least_step (with_digit n d)
digit_step (Comma n) d = most_step n (Some d)
digit_step (Most n m) d = most_step n (with_digit m d)

-- the closing brace
abbrev pub close_step : BoundsPlace → BoundsStep
close_step Start = Refused
close_step (Least n) = Ends (exactly n (Some n))
close_step (Comma n) = Ends (exactly n None)
close_step (Most n m) = if nat_le n m then Ends (exactly n (Some m)) else Refused

-- the comma
abbrev pub comma_step : BoundsPlace → BoundsStep
comma_step (Least n) = Goes (Comma n)
comma_step _ = Refused

abbrev pub may_digit : BoundsPlace → Option ℕ → BoundsStep
may_digit p (Some d) = digit_step p d
may_digit p None = Refused

-- what the next byte of bounds leads to
abbrev pub bounds_step : BoundsPlace → ℕ → BoundsStep
bounds_step p b =
    if b == 125 then close_step p else if b == 44 then comma_step p else may_digit p (decimal_value b)
