-- What sort of values types have, apart from widths, parts and the numbers of declarations; and of which sorts operators are.
use Rattle.std.specs.Prelude.{ℕ, ◌==◌, Bool, true, false, ◌&&◌}
use Rattle.sp_words.specs.declared.operators.BinaryOp.{BinaryOp}
use Rattle.sp_words.specs.declared.operators.BinaryOp.TheVariants as op_is
use Rattle.sp_types.specs.declared.words.Word.{Word}
use Rattle.sp_types.specs.declared.words.Word.TheVariants as word_is
use Rattle.sp_types.specs.declared.words.Maker.{Maker}
use Rattle.sp_types.specs.declared.words.Maker.TheVariants as maker_is
use Rattle.sp_types.specs.Types.{Ty, word, made}

pub data Sort : Type 0 where
  Void Bools Unsigned Signed Bytes Text Enums Bits Tuples Vectors Sets Maps Units Places : Sort

-- a type without parts; what has no values has the sort of void
abbrev pub sort_of_word : Word → Sort
sort_of_word word_is.Bool = Bools
sort_of_word (word_is.Uint w) = Unsigned
sort_of_word (word_is.Int w) = Signed
sort_of_word word_is.Bytes = Bytes
sort_of_word word_is.String = Text
sort_of_word word_is.Iterator = Places
sort_of_word (word_is.Enum k) = Enums
sort_of_word (word_is.Bitfield k) = Bits
sort_of_word (word_is.Unit u) = Units
sort_of_word w = Void

abbrev pub sort_of_made : Maker → Sort
sort_of_made maker_is.Tuple = Tuples
sort_of_made maker_is.Vector = Vectors
sort_of_made maker_is.Set = Sets
sort_of_made maker_is.Map = Maps

abbrev pub sort_of : Ty → Sort
sort_of (word w) = sort_of_word w
sort_of (made m ts) = sort_of_made m

-- sorts by numbers, in the order of their values
abbrev pub sort_number : Sort → ℕ
sort_number Void = 0
sort_number Bools = 1
sort_number Unsigned = 2
sort_number Signed = 3
sort_number Bytes = 4
sort_number Text = 5
sort_number Enums = 6
sort_number Bits = 7
sort_number Tuples = 8
sort_number Vectors = 9
sort_number Sets = 10
sort_number Maps = 11
sort_number Units = 12
sort_number Places = 13

abbrev pub same_sort : Sort → Sort → Bool
same_sort a b = sort_number a == sort_number b

-- units have no order among themselves, and so are not equal or unequal
abbrev pub has_order : Sort → Bool
has_order Units = false
has_order a = true

-- what an operator takes and gives: its first operand, its second, and its result
abbrev pub booleans : Sort → Sort → Sort → Bool
booleans Bools Bools Bools = true
booleans a b t = false

abbrev pub integers : Sort → Sort → Sort → Bool
integers Unsigned Unsigned Unsigned = true
integers Signed Signed Signed = true
integers a b t = false

abbrev pub unsigned : Sort → Sort → Sort → Bool
unsigned Unsigned Unsigned Unsigned = true
unsigned a b t = false

-- a place of the input moves on by a number
abbrev pub added : Sort → Sort → Sort → Bool
added Bytes Bytes Bytes = true
added Text Text Text = true
added Places Unsigned Places = true
added Unsigned Unsigned Unsigned = true
added Signed Signed Signed = true
added a b t = false

abbrev pub ordered : Sort → Sort → Sort → Bool
ordered Bytes Bytes Bools = true
ordered Text Text Bools = true
ordered Places Places Bools = true
ordered Unsigned Unsigned Bools = true
ordered Signed Signed Bools = true
ordered a b t = false

abbrev pub compared : Sort → Sort → Sort → Bool
compared a b t = has_order a && same_sort a b && same_sort t Bools

-- a key of a set or a map, or bytes in bytes
abbrev pub held : Sort → Sort → Sort → Bool
held a Sets Bools = true
held a Maps Bools = true
held Bytes Bytes Bools = true
held a b t = false

abbrev pub takes : BinaryOp → Sort → Sort → Sort → Bool
takes op_is.Or a b t = booleans a b t
takes op_is.And a b t = booleans a b t
takes op_is.In a b t = held a b t
takes op_is.NotIn a b t = held a b t
takes op_is.Equal a b t = compared a b t
takes op_is.NotEqual a b t = compared a b t
takes op_is.Less a b t = ordered a b t
takes op_is.LessEqual a b t = ordered a b t
takes op_is.Greater a b t = ordered a b t
takes op_is.GreaterEqual a b t = ordered a b t
takes op_is.BitOr a b t = unsigned a b t
takes op_is.BitXor a b t = unsigned a b t
takes op_is.BitAnd a b t = unsigned a b t
takes op_is.ShiftLeft a b t = unsigned a b t
takes op_is.ShiftRight a b t = unsigned a b t
takes op_is.Add a b t = added a b t
takes op_is.Subtract a b t = integers a b t
takes op_is.Multiply a b t = integers a b t
takes op_is.Divide a b t = integers a b t
takes op_is.Remainder a b t = integers a b t

-- what has a size
abbrev pub is_sized : Sort → Bool
is_sized Bytes = true
is_sized Text = true
is_sized Vectors = true
is_sized Sets = true
is_sized Maps = true
is_sized a = false

-- what goes to an unsigned integer, and what goes to a signed one or to an enum
abbrev pub goes_to_unsigned : Sort → Bool
goes_to_unsigned Unsigned = true
goes_to_unsigned Signed = true
goes_to_unsigned Enums = true
goes_to_unsigned a = false

abbrev pub is_integer : Sort → Bool
is_integer Unsigned = true
is_integer Signed = true
is_integer a = false

-- a cast to a type
abbrev pub casts : Sort → Ty → Bool
casts a (word (word_is.Uint w)) = goes_to_unsigned a
casts a (word (word_is.Int w)) = is_integer a
casts a (word (word_is.Enum k)) = is_integer a
casts a t = false
