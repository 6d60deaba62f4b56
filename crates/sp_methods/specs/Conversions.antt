-- The numbers that bytes write or stand for, slices of bytes, and their letters in one case.
use Rattle.std.specs.Prelude.{ℕ, ◌+◌, ◌-◌, ◌*◌, ◌^◌, ℤ, pos, neg_ℤ, Bool, not, ◌&&◌, ◌==◌, nat_lt, nat_le, List, [], ◌∷◌, length, take, drop, map, Result, Ok, Err, if◌then◌else◌}
use Rattle.std.specs.Char.{digit_value, to_ascii_lowercase, to_ascii_uppercase}
use Rattle.std.specs.List.{list_all}
use Rattle.std.specs.Str.Parse.{starts_with_minus, without_leading_sign}
use Rattle.sp_base.specs.declared.kinds.PKind.{PKind}
use Rattle.sp_base.specs.declared.kinds.PKind.TheVariants.{BadConversion, Overflow, Index}
use Rattle.sp_numbers.specs.declared.width.Width.TheVariants.{W64}
use Rattle.sp_numbers.specs.Numbers.{unsigned_or, signed_or}
use Rattle.sp_value.specs.Integers.{unsigned_of, signed_of}

-- a numeral's base is at least 2 and at most 36, the number of the digits and letters
abbrev pub is_base : ℕ → Bool
is_base base = nat_le 2 base && nat_le base 36

-- one ASCII digit or letter or more, each of a value below the base: 'a' and 'A' are 10, 'z' and 'Z' are 35
abbrev pub is_numeral : ℕ → List ℕ → Bool
is_numeral base cs = not (length cs == 0) && list_all (λ c. nat_lt (digit_value c) base) cs

-- the number that a numeral writes: a digit counts its value times the base to the power of how many digits follow it
abbrev pub number : ℕ → List ℕ → ℕ
number base [] = 0
number base (c ∷ cs) = digit_value c * base ^ length cs + number base cs

-- the whole number behind the sign
abbrev pub with_sign : Bool → ℕ → ℤ
with_sign minus n = if minus then neg_ℤ (pos n) else pos n

-- the unsigned integer that a numeral writes
abbrev pub to_uint : List ℕ → ℕ → Result ℕ PKind
to_uint x base = if is_base base && is_numeral base x then unsigned_or Overflow W64 (pos (number base x)) else Err BadConversion

-- the signed integer that a numeral writes, with one '-' or '+' before it or none
abbrev pub to_int : List ℕ → ℕ → Result ℤ PKind
to_int x base = if is_base base && is_numeral base (without_leading_sign x)
    then signed_or Overflow W64 (with_sign (starts_with_minus x) (number base (without_leading_sign x)))
    else Err BadConversion

-- the byte orders: 0 is little-endian, 1 is big-endian, and 2 is network order, which is big-endian too
abbrev pub is_order : ℕ → Bool
is_order order = nat_lt order 3

abbrev pub is_little : ℕ → Bool
is_little order = order == 0

-- an integer of 64 bits has 1 to 8 bytes
abbrev pub is_integer_size : ℕ → Bool
is_integer_size n = nat_lt 0 n && nat_le n 8

-- the unsigned integer that bytes stand for in a byte order
abbrev pub to_uint_order : List ℕ → ℕ → Result ℕ PKind
to_uint_order x order = if is_order order && is_integer_size (length x) then Ok (unsigned_of (is_little order) x) else Err BadConversion

-- the same in two's complement over just these bytes
abbrev pub to_int_order : List ℕ → ℕ → Result ℤ PKind
to_int_order x order = if is_order order && is_integer_size (length x)
    then Ok (signed_of (256 ^ length x) (unsigned_of (is_little order) x))
    else Err BadConversion

-- the bytes from place a up to place b, counted from 0
abbrev pub sub : List ℕ → ℕ → ℕ → Result (List ℕ) PKind
sub x a b = if nat_le a b && nat_le b (length x) then Ok (take (b - a) (drop a x)) else Err Index

-- each ASCII letter in one case, and every other byte as it is
abbrev pub lower : List ℕ → List ℕ
lower x = map to_ascii_lowercase x

abbrev pub upper : List ℕ → List ℕ
upper x = map to_ascii_uppercase x
