-- What types operators take, and of what type their results are.
use Rattle.std.specs.Prelude.{Bool, true, false, ◌&&◌, ◌||◌, if◌then◌else◌}
use Rattle.sp_words.specs.declared.operators.BinaryOp.{BinaryOp}
use Rattle.sp_words.specs.declared.operators.BinaryOp.TheVariants as op_is
use Rattle.sp_words.specs.declared.operators.UnaryOp.{UnaryOp}
use Rattle.sp_words.specs.declared.operators.UnaryOp.TheVariants as unary_is
use Rattle.sp_types.specs.declared.words.Word.TheVariants as word_is
use Rattle.sp_types.specs.declared.words.Maker.TheVariants as maker_is
use Rattle.sp_types.specs.Types.{Ty, Tys, word, made, none, more, same, is_plain, is_key, goes, wider}
use Rattle.sp_type_operands.specs.declared.operators.OperatorSort.{OperatorSort}
use Rattle.sp_type_operands.specs.declared.operators.OperatorSort.TheVariants as takes

abbrev pub unknown : Ty
unknown = word word_is.Unknown

abbrev pub boolean : Ty
boolean = word word_is.Bool

-- Types of what is no value: what a function without a result gives, a regular expression, a sink, and what a `connect` starts.
abbrev pub is_valueless : Ty → Bool
is_valueless (word word_is.Void) = true
is_valueless (word word_is.Regex) = true
is_valueless (word word_is.Sink) = true
is_valueless (word word_is.New) = true
is_valueless _ = false

abbrev pub is_unsigned : Ty → Bool
is_unsigned (word (word_is.Uint _)) = true
is_unsigned _ = false

abbrev pub is_signed : Ty → Bool
is_signed (word (word_is.Int _)) = true
is_signed _ = false

abbrev pub is_integer : Ty → Bool
is_integer t = is_unsigned t || is_signed t

abbrev pub is_boolean : Ty → Bool
is_boolean (word word_is.Bool) = true
is_boolean _ = false

abbrev pub is_bytes : Ty → Bool
is_bytes (word word_is.Bytes) = true
is_bytes _ = false

abbrev pub is_text : Ty → Bool
is_text (word word_is.String) = true
is_text _ = false

abbrev pub is_iterator : Ty → Bool
is_iterator (word word_is.Iterator) = true
is_iterator _ = false

abbrev pub is_enum : Ty → Bool
is_enum (word (word_is.Enum _)) = true
is_enum _ = false

-- the first of some types, and unknown where there is none
abbrev pub first_type : Tys → Ty
first_type none = unknown
first_type (more t ts) = t

-- an element of a vector, the value of a key of a map, the key of a set, and a member of a tuple at a constant place
abbrev pub second_type : Tys → Ty
second_type (more s ts) = first_type ts
second_type none = unknown

-- the type of the keys of a set or a map, and unknown where it is neither
abbrev pub key_of : Ty → Ty
key_of (made maker_is.Set ts) = first_type ts
key_of (made maker_is.Map ts) = first_type ts
key_of _ = unknown

-- whether it is a set or a map
abbrev pub has_keys : Ty → Bool
has_keys (made maker_is.Set _) = true
has_keys (made maker_is.Map _) = true
has_keys _ = false

-- the operators by what they take
abbrev pub sort_of : BinaryOp → OperatorSort
sort_of op_is.Or = takes.Truths
sort_of op_is.And = takes.Truths
sort_of op_is.In = takes.Member
sort_of op_is.NotIn = takes.Member
sort_of op_is.Equal = takes.Alike
sort_of op_is.NotEqual = takes.Alike
sort_of op_is.Less = takes.Ordered
sort_of op_is.LessEqual = takes.Ordered
sort_of op_is.Greater = takes.Ordered
sort_of op_is.GreaterEqual = takes.Ordered
sort_of op_is.BitOr = takes.Bits
sort_of op_is.BitXor = takes.Bits
sort_of op_is.BitAnd = takes.Bits
sort_of op_is.ShiftLeft = takes.Shifted
sort_of op_is.ShiftRight = takes.Shifted
sort_of op_is.Add = takes.Added
sort_of op_is.Subtract = takes.Integers
sort_of op_is.Multiply = takes.Integers
sort_of op_is.Divide = takes.Integers
sort_of op_is.Remainder = takes.Integers

-- whether a type can stand before an operator at all
abbrev pub stands_before : OperatorSort → Ty → Bool
stands_before takes.Truths t = is_boolean t
stands_before takes.Member t = is_key t
stands_before takes.Alike t = is_plain t || is_iterator t
stands_before takes.Ordered t = is_integer t || is_bytes t || is_text t || is_iterator t
stands_before takes.Bits t = is_unsigned t
stands_before takes.Shifted t = is_unsigned t
stands_before takes.Added t = is_integer t || is_bytes t || is_text t || is_iterator t
stands_before takes.Integers t = is_integer t

-- whether a type can stand behind an operator at all
abbrev pub stands_behind : OperatorSort → Ty → Bool
stands_behind takes.Member t = has_keys t || is_bytes t
stands_behind takes.Added t = is_integer t || is_bytes t || is_text t
stands_behind sort t = stands_before sort t

-- integers of one signedness
abbrev pub of_one_sign : Ty → Ty → Bool
of_one_sign s t = (is_unsigned s && is_unsigned t) || (is_signed s && is_signed t)

-- Whether two types that can stand before and behind an operator agree. A key goes to the type of the keys.
abbrev pub agree : OperatorSort → Ty → Ty → Bool
agree takes.Truths s t = true
agree takes.Member s t = if is_bytes t then is_bytes s else goes s (key_of t)
agree takes.Alike s t = of_one_sign s t || same s t
agree takes.Ordered s t = of_one_sign s t || same s t
agree takes.Bits s t = true
agree takes.Shifted s t = true
agree takes.Added s t = if is_iterator s then is_unsigned t else of_one_sign s t || same s t
agree takes.Integers s t = of_one_sign s t

-- the wider of two integer types of one signedness, and unknown of others
abbrev pub wider_type : Ty → Ty → Ty
wider_type (word v) (word w) = word (wider v w)
wider_type _ _ = unknown

abbrev pub sum_type : Ty → Ty → Ty
sum_type s t =
    if is_iterator s && is_unsigned t then s else
    if (is_bytes s && is_bytes t) || (is_text s && is_text t) then s else wider_type s t

-- The type of an operator's result. A comparison and a test give a Boolean whatever their operands are; of other operators
-- the result is unknown where the operands are not right.
abbrev pub result_type : OperatorSort → Ty → Ty → Ty
result_type takes.Truths s t = boolean
result_type takes.Member s t = boolean
result_type takes.Alike s t = boolean
result_type takes.Ordered s t = boolean
result_type takes.Bits s t = if is_unsigned s && is_unsigned t then wider_type s t else unknown
result_type takes.Shifted s t = if is_unsigned s && is_unsigned t then s else unknown
result_type takes.Added s t = sum_type s t
result_type takes.Integers s t = wider_type s t

-- an operator on one value: what it takes, and the type of its result
abbrev pub stands_alone : UnaryOp → Ty → Bool
stands_alone unary_is.Not t = is_boolean t
stands_alone unary_is.Negate t = is_signed t
stands_alone unary_is.Complement t = is_unsigned t

abbrev pub unary_type : UnaryOp → Ty → Ty
unary_type unary_is.Not t = boolean
unary_type unary_is.Negate t = if is_signed t then t else unknown
unary_type unary_is.Complement t = if is_unsigned t then t else unknown

-- what has a size: bytes, texts, vectors, sets and maps
abbrev pub has_size : Ty → Bool
has_size (word word_is.Bytes) = true
has_size (word word_is.String) = true
has_size (made maker_is.Vector _) = true
has_size (made maker_is.Set _) = true
has_size (made maker_is.Map _) = true
has_size _ = false

-- a cast goes from an integer to an integer, and from an enum to an unsigned integer
abbrev pub can_cast : Ty → Ty → Bool
can_cast s t = (is_integer s && is_integer t) || (is_enum s && is_unsigned t)
