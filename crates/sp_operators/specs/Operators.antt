-- The operators on values: functions on whole numbers, bytes and texts, with the error where a result is out of its type's range.
use Rattle.std.specs.Prelude.{ℕ, ◌+◌, ◌^◌, ℤ, pos, neg_ℤ, Bool, nat_lt, nat_le, not, ◌&&◌, ◌||◌, length, ◌++◌, Result, Ok, Err, if◌then◌else◌}
use Rattle.std.specs.Ordering.{is_eq, is_ne, is_lt, is_le, is_gt, is_ge}
use Rattle.std.specs.Str.{chars}
use Rattle.sp_base.specs.declared.kinds.PKind.{PKind}
use Rattle.sp_base.specs.declared.kinds.PKind.TheVariants.{Overflow, CastRange}
use Rattle.sp_numbers.specs.declared.width.Width.{Width}
use Rattle.sp_numbers.specs.declared.width.Width.TheVariants.{W64}
use Rattle.sp_numbers.specs.declared.operators.Arithmetic.{Arithmetic}
use Rattle.sp_numbers.specs.declared.operators.Arithmetic.TheVariants as arithmetic_on
use Rattle.sp_numbers.specs.declared.operators.BitOperator.{BitOperator}
use Rattle.sp_numbers.specs.declared.operators.BitOperator.TheVariants as bits
use Rattle.sp_numbers.specs.declared.operators.Shift.{Shift}
use Rattle.sp_numbers.specs.declared.operators.Shift.TheVariants.{Left, Right}
use Rattle.sp_numbers.specs.Numbers.{width_bits, unsigned_or, signed_or, unsigned_arithmetic, signed_arithmetic, bitwise, complement, shifted}
use Rattle.sp_value.specs.Val.{Val, void, bool, uint, int, bytes, str, enum, vector, set, map, place, list_of, pairs_of}
use Rattle.sp_value.specs.Order.{val_cmp}
use Rattle.sp_value.specs.Changes.{has_key}
use Rattle.sp_operators.specs.Parts.{has_part}
use Rattle.sp_words.specs.declared.operators.BinaryOp.{BinaryOp}
use Rattle.sp_words.specs.declared.operators.BinaryOp.TheVariants.{Or, And, In, NotIn, Equal, NotEqual, Less, LessEqual, Greater, GreaterEqual, BitOr, BitXor, BitAnd, ShiftLeft, ShiftRight, Add, Subtract, Multiply, Divide, Remainder}
use Rattle.sp_words.specs.declared.operators.UnaryOp.{UnaryOp}
use Rattle.sp_words.specs.declared.operators.UnaryOp.TheVariants.{Not, Negate, Complement}
use Rattle.sp_operators.specs.declared.plain_type.PlainType.{PlainType}
use Rattle.sp_operators.specs.declared.plain_type.PlainType.TheVariants.{Uint, Int, Enum}

-- what stands for values that an operator doesn't take; no call comes to it
abbrev pub no_operands : Result Val PKind
no_operands = Ok void

-- the value of a number, and the error in place of one
abbrev pub value_or_error : {A : Type 0} → (A → Val) → Result A PKind → Result Val PKind
value_or_error make (Ok n) = Ok (make n)
value_or_error make (Err error) = Err error

-- the wider of two widths
abbrev pub wider : Width → Width → Width
wider v w = if nat_lt (width_bits v) (width_bits w) then w else v

-- an operator on two signed integers: the result has the wider type
unfoldable pub signed_result : Arithmetic → Width → ℤ → Width → ℤ → Result Val PKind
signed_result operator v m w n = value_or_error (int (wider v w)) (signed_arithmetic operator (wider v w) m n)

-- an operator on two integers of one signedness: the result has the wider type
abbrev pub arithmetic : Arithmetic → Val → Val → Result Val PKind
arithmetic operator (uint v m) (uint w n) = value_or_error (uint (wider v w)) (unsigned_arithmetic operator (wider v w) m n)
arithmetic operator (int v m) (int w n) = signed_result operator v m w n
arithmetic operator _ _ = no_operands

-- an operator on the bits of two unsigned integers: the result has the wider type
abbrev pub bit_operation : BitOperator → Val → Val → Result Val PKind
bit_operation operator (uint v m) (uint w n) = Ok (uint (wider v w) (bitwise operator m n))
bit_operation operator _ _ = no_operands

-- a shift by so many places: the result has the left type
abbrev pub shift_by : Shift → Val → Val → Result Val PKind
shift_by direction (uint v m) (uint _ n) = value_or_error (uint v) (shifted direction v m n)
shift_by direction _ _ = no_operands

-- the place so many bytes farther on, at most 2 to the power of 63
abbrev pub place_behind : ℕ → ℕ → Result ℕ PKind
place_behind at n = if nat_le (at + n) (2 ^ 63) then Ok (at + n) else Err Overflow

-- what stands in bytes and in texts one behind the other, an iterator farther on, or the sum of integers
abbrev pub added : Val → Val → Result Val PKind
added (bytes a) (bytes b) = Ok (bytes (a ++ b))
added (str a) (str b) = Ok (str (a ++ b))
added (place at) (uint _ n) = value_or_error place (place_behind at n)
added a b = arithmetic arithmetic_on.Add a b

-- whether bytes stand in others, or a key in a set or a map
abbrev pub is_in : Val → Val → Bool
is_in (bytes part) (bytes whole) = has_part whole part
is_in key container = has_key container key

-- whether either of two truths holds, and whether both hold
abbrev pub either_holds : Val → Val → Result Val PKind
either_holds (bool a) (bool b) = Ok (bool (a || b))
either_holds _ _ = no_operands

abbrev pub both_hold : Val → Val → Result Val PKind
both_hold (bool a) (bool b) = Ok (bool (a && b))
both_hold _ _ = no_operands

-- an operator between two values
abbrev pub binary : BinaryOp → Val → Val → Result Val PKind
binary Or a b = either_holds a b
binary And a b = both_hold a b
binary In a b = Ok (bool (is_in a b))
binary NotIn a b = Ok (bool (not (is_in a b)))
binary Equal a b = Ok (bool (is_eq (val_cmp a b)))
binary NotEqual a b = Ok (bool (is_ne (val_cmp a b)))
binary Less a b = Ok (bool (is_lt (val_cmp a b)))
binary LessEqual a b = Ok (bool (is_le (val_cmp a b)))
binary Greater a b = Ok (bool (is_gt (val_cmp a b)))
binary GreaterEqual a b = Ok (bool (is_ge (val_cmp a b)))
binary BitOr a b = bit_operation bits.Or a b
binary BitXor a b = bit_operation bits.Xor a b
binary BitAnd a b = bit_operation bits.And a b
binary ShiftLeft a b = shift_by Left a b
binary ShiftRight a b = shift_by Right a b
binary Add a b = added a b
binary Subtract a b = arithmetic arithmetic_on.Subtract a b
binary Multiply a b = arithmetic arithmetic_on.Multiply a b
binary Divide a b = arithmetic arithmetic_on.Divide a b
binary Remainder a b = arithmetic arithmetic_on.Remainder a b

-- how many bytes, characters, items, keys or entries there are
abbrev pub size_of : Val → ℕ
size_of (bytes b) = length b
size_of (str b) = length (chars b)
size_of (vector vs) = length (list_of vs)
size_of (set vs) = length (list_of vs)
size_of (map es) = length (pairs_of es)
size_of _ = 0

-- an operator on one value
abbrev pub unary : UnaryOp → Val → Result Val PKind
unary Not (bool b) = Ok (bool (not b))
unary Negate (int w n) = value_or_error (int w) (signed_or Overflow w (neg_ℤ n))
unary Complement (uint w n) = Ok (uint w (complement w n))
unary _ _ = no_operands

-- a value as one of another type; a label that an enum doesn't list stays a number
abbrev pub cast : Val → PlainType → Result Val PKind
cast (uint _ n) (Uint w) = value_or_error (uint w) (unsigned_or CastRange w (pos n))
cast (uint _ n) (Int w) = value_or_error (int w) (signed_or CastRange w (pos n))
cast (uint _ n) (Enum k) = Ok (enum k n)
cast (int _ n) (Uint w) = value_or_error (uint w) (unsigned_or CastRange w n)
cast (int _ n) (Int w) = value_or_error (int w) (signed_or CastRange w n)
cast (int _ n) (Enum k) = value_or_error (enum k) (unsigned_or CastRange W64 n)
cast (enum _ n) (Uint w) = value_or_error (uint w) (unsigned_or CastRange w (pos n))
cast _ _ = no_operands
