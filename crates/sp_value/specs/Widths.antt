-- The numbers that the width of an integer has.
use Rattle.std.specs.Prelude.{◌^◌, ◌<◌, IsTrue}
use Rattle.sp_numbers.specs.Numbers.{width_bits, fits_signed}
use Rattle.sp_value.specs.Val.{Val, uint, int}

-- an integer is one of those of its width
abbrev pub IsInWidth : Val → Type 0
IsInWidth (uint w n) = n < 2 ^ width_bits w
IsInWidth (int w n) = IsTrue (fits_signed w n)
IsInWidth _ = Unit {0}
