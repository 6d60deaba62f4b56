-- Operators on integers: whole numbers, the range of the result's type, and the error outside.
use Rattle.std.specs.Prelude.{ℕ, ◌+◌, ◌-◌, ◌*◌, ◌/◌, ◌%◌, ◌^◌, ℤ, pos, ◌+ℤ◌, ◌-ℤ◌, ◌*ℤ◌, neg_ℤ, int_div, int_rem, int_le, int_lt, unsigned_abs, Bool, true, false, ◌&&◌, ◌==◌, nat_lt, if◌then◌else◌, Result, Ok, Err, bit_and, bit_or, bit_xor}
use Rattle.sp_base.specs.declared.kinds.PKind.{PKind}
use Rattle.sp_base.specs.declared.kinds.PKind.TheVariants.{Overflow, DivZero, BadShift}
use Rattle.sp_numbers.specs.declared.width.Width.{Width}
use Rattle.sp_numbers.specs.declared.width.Width.TheVariants.{W8, W16, W32, W64}
use Rattle.sp_numbers.specs.declared.operators.Arithmetic.{Arithmetic}
use Rattle.sp_numbers.specs.declared.operators.Arithmetic.TheVariants.{Add, Subtract, Multiply, Divide, Remainder}
use Rattle.sp_numbers.specs.declared.operators.BitOperator.{BitOperator}
use Rattle.sp_numbers.specs.declared.operators.BitOperator.TheVariants.{And, Or, Xor}
use Rattle.sp_numbers.specs.declared.operators.Shift.{Shift}
use Rattle.sp_numbers.specs.declared.operators.Shift.TheVariants.{Left, Right}

-- how many bits an integer of the width has
abbrev pub width_bits : Width → ℕ
width_bits W8 = 8
width_bits W16 = 16
width_bits W32 = 32
width_bits W64 = 64

-- a whole number is one of the unsigned integers of the width: from 0 to below 2 to the power of its bits
abbrev pub fits_unsigned : Width → ℤ → Bool
fits_unsigned width z = int_le (pos 0) z && int_lt z (pos (2 ^ width_bits width))

-- a whole number is one of the signed integers of the width: from minus one half of 2 to the power of its bits to below that half
abbrev pub fits_signed : Width → ℤ → Bool
fits_signed width z = int_le (neg_ℤ (pos (2 ^ (width_bits width - 1)))) z && int_lt z (pos (2 ^ (width_bits width - 1)))

-- the whole number where it is an unsigned integer of the width, else the error
abbrev pub unsigned_or : PKind → Width → ℤ → Result ℕ PKind
unsigned_or error width z = if fits_unsigned width z then Ok (unsigned_abs z) else Err error

-- the whole number where it is a signed integer of the width, else the error
abbrev pub signed_or : PKind → Width → ℤ → Result ℤ PKind
signed_or error width z = if fits_signed width z then Ok z else Err error

-- a whole number goes through the test of its range, and an error of the operands stays
abbrev pub ranged : {A : Type 0} → (ℤ → Result A PKind) → Result ℤ PKind → Result A PKind
ranged range (Ok z) = range z
ranged range (Err error) = Err error

-- what a division by b answers: an error where b is 0
abbrev pub divided_by : ℤ → ℤ → Result ℤ PKind
divided_by b z = if unsigned_abs b == 0 then Err DivZero else Ok z

-- the operators on whole numbers: a quotient goes toward zero, a remainder has the dividend's sign
abbrev pub whole_arithmetic : Arithmetic → ℤ → ℤ → Result ℤ PKind
whole_arithmetic Add a b = Ok (a +ℤ b)
whole_arithmetic Subtract a b = Ok (a -ℤ b)
whole_arithmetic Multiply a b = Ok (a *ℤ b)
whole_arithmetic Divide a b = divided_by b (int_div a b)
whole_arithmetic Remainder a b = divided_by b (int_rem a b)

-- an operator on two unsigned integers of the width
abbrev pub unsigned_arithmetic : Arithmetic → Width → ℕ → ℕ → Result ℕ PKind
unsigned_arithmetic operator width a b = ranged (unsigned_or Overflow width) (whole_arithmetic operator (pos a) (pos b))

-- an operator on two signed integers of the width
abbrev pub signed_arithmetic : Arithmetic → Width → ℤ → ℤ → Result ℤ PKind
signed_arithmetic operator width a b = ranged (signed_or Overflow width) (whole_arithmetic operator a b)

-- an operator on the bits of two unsigned integers
abbrev pub bitwise : BitOperator → ℕ → ℕ → ℕ
bitwise And a b = bit_and a b
bitwise Or a b = bit_or a b
bitwise Xor a b = bit_xor a b

-- each bit of the width the other way round
abbrev pub complement : Width → ℕ → ℕ
complement width a = 2 ^ width_bits width - 1 - a

-- the bits moved up or down by so many places: those past the width and those below bit 0 are lost
abbrev pub moved : Shift → Width → ℕ → ℕ → ℕ
moved Left width a count = (a * 2 ^ count) % 2 ^ width_bits width
moved Right width a count = a / 2 ^ count

-- a shift by fewer places than the width has bits
abbrev pub shifted : Shift → Width → ℕ → ℕ → Result ℕ PKind
shifted direction width a count = if nat_lt count (width_bits width) then Ok (moved direction width a count) else Err BadShift

-- the lowest bit of a range, counted from the least significant bit or from the other end of the width
abbrev pub lowest_bit : ℕ → ℕ → ℕ → Bool → ℕ
lowest_bit width from to true = width - 1 - to
lowest_bit width from to false = from

-- the bits of a range, both ends included, as a number
abbrev pub bit_range : ℕ → ℕ → ℕ → ℕ → Bool → ℕ
bit_range x width from to most_significant_first = x / 2 ^ lowest_bit width from to most_significant_first % 2 ^ (to - from + 1)
