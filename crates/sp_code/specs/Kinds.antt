-- What operators, casts, places and loops make of kinds.
use Rattle.std.specs.Prelude.{◌≡◌, ◌⊎◌, ◌<◌, ℕ, zero, suc, ◌==◌, List, [], ◌∷◌, Option, Some, None, if◌then◌else◌}
use Rattle.sp_words.specs.declared.operators.BinaryOp.{BinaryOp}
use Rattle.sp_words.specs.declared.operators.BinaryOp.TheVariants.{Or, And, In, NotIn, Equal, NotEqual, Less, LessEqual, Greater, GreaterEqual, BitOr, BitXor, BitAnd, ShiftLeft, ShiftRight, Add, Subtract, Multiply, Divide, Remainder}
use Rattle.sp_words.specs.declared.operators.UnaryOp.{UnaryOp}
use Rattle.sp_words.specs.declared.operators.UnaryOp.TheVariants.{Not, Negate, Complement}
use Rattle.sp_operators.specs.declared.plain_type.PlainType.{PlainType}
use Rattle.sp_operators.specs.declared.plain_type.PlainType.TheVariants as plain
use Rattle.sp_methods.specs.Kinds.{Kind, Kinds, Void, Bools, Unsigned, Signed, Bytes, Text, Iterator, Only, EnumOf, BitsOf, TupleOf, VectorOf, SetOf, MapOf, no_kinds, kind_and, kinds_of}

-- a number is an unsigned integer, whichever it is
abbrev pub widest : Kind → Kind
widest (Only n) = Unsigned
widest k = k

-- what an operator makes of two kinds, where it takes them
abbrev pub of_integers : Kind → Kind → Option Kind
of_integers Unsigned Unsigned = Some Unsigned
of_integers Signed Signed = Some Signed
of_integers j k = None

abbrev pub of_unsigned : Kind → Kind → Option Kind
of_unsigned Unsigned Unsigned = Some Unsigned
of_unsigned j k = None

abbrev pub of_booleans : Kind → Kind → Option Kind
of_booleans Bools Bools = Some Bools
of_booleans j k = None

abbrev pub of_added : Kind → Kind → Option Kind
of_added Bytes Bytes = Some Bytes
of_added Text Text = Some Text
of_added Iterator Unsigned = Some Iterator
of_added j k = of_integers j k

abbrev pub of_ordered : Kind → Kind → Option Kind
of_ordered Bytes Bytes = Some Bools
of_ordered Text Text = Some Bools
of_ordered Iterator Iterator = Some Bools
of_ordered Unsigned Unsigned = Some Bools
of_ordered Signed Signed = Some Bools
of_ordered j k = None

-- kinds of values that have an order among themselves, by numbers; units have none
abbrev pub order_of : Kind → Option ℕ
order_of Void = Some 0
order_of Bools = Some 1
order_of Unsigned = Some 2
order_of Signed = Some 3
order_of Bytes = Some 4
order_of Text = Some 5
order_of (EnumOf k) = Some 6
order_of (BitsOf k n) = Some 7
order_of (TupleOf ks) = Some 8
order_of (VectorOf k) = Some 9
order_of (SetOf k) = Some 10
order_of (MapOf j k) = Some 11
order_of Iterator = Some 13
order_of k = None

abbrev pub of_orders : Option ℕ → Option ℕ → Option Kind
of_orders (Some m) (Some n) = if m == n then Some Bools else None
of_orders m n = None

abbrev pub of_held : Kind → Kind → Option Kind
of_held j (SetOf k) = Some Bools
of_held j (MapOf k v) = Some Bools
of_held Bytes Bytes = Some Bools
of_held j k = None

abbrev pub of_two : BinaryOp → Kind → Kind → Option Kind
of_two Or j k = of_booleans j k
of_two And j k = of_booleans j k
of_two In j k = of_held j k
of_two NotIn j k = of_held j k
of_two Equal j k = of_orders (order_of j) (order_of k)
of_two NotEqual j k = of_orders (order_of j) (order_of k)
of_two Less j k = of_ordered j k
of_two LessEqual j k = of_ordered j k
of_two Greater j k = of_ordered j k
of_two GreaterEqual j k = of_ordered j k
of_two BitOr j k = of_unsigned j k
of_two BitXor j k = of_unsigned j k
of_two BitAnd j k = of_unsigned j k
of_two ShiftLeft j k = of_unsigned j k
of_two ShiftRight j k = of_unsigned j k
of_two Add j k = of_added j k
of_two Subtract j k = of_integers j k
of_two Multiply j k = of_integers j k
of_two Divide j k = of_integers j k
of_two Remainder j k = of_integers j k

abbrev pub kind_of_two : BinaryOp → Kind → Kind → Option Kind
kind_of_two o j k = of_two o (widest j) (widest k)

abbrev pub of_one : UnaryOp → Kind → Option Kind
of_one Not Bools = Some Bools
of_one Negate Signed = Some Signed
of_one Complement Unsigned = Some Unsigned
of_one o k = None

abbrev pub kind_of_one : UnaryOp → Kind → Option Kind
kind_of_one o k = of_one o (widest k)

abbrev pub of_cast : Kind → PlainType → Option Kind
of_cast Unsigned (plain.Uint w) = Some Unsigned
of_cast Unsigned (plain.Int w) = Some Signed
of_cast Unsigned (plain.Enum k) = Some (EnumOf k)
of_cast Signed (plain.Uint w) = Some Unsigned
of_cast Signed (plain.Int w) = Some Signed
of_cast Signed (plain.Enum k) = Some (EnumOf k)
of_cast (EnumOf k) (plain.Uint w) = Some Unsigned
of_cast k t = None

abbrev pub kind_of_cast : Kind → PlainType → Option Kind
kind_of_cast k t = of_cast (widest k) t

-- what has a size
abbrev pub IsSized : Kind → Type 0
IsSized Bytes = Unit {0}
IsSized Text = Unit {0}
IsSized (VectorOf k) = Unit {0}
IsSized (SetOf k) = Unit {0}
IsSized (MapOf j k) = Unit {0}
IsSized k = ⊥

abbrev pub IsUnsigned : Kind → Type 0
IsUnsigned k = widest k ≡ Unsigned

abbrev pub kind_in : Kinds → ℕ → Option Kind
kind_in no_kinds n = None
kind_in (kind_and k ks) zero = Some k
kind_in (kind_and k ks) (suc n) = kind_in ks n

-- a container that is changed at a key: its kind, the key's and the item's
pub data IsPlaceIn : Kind → Kind → Kind → Type 0 where
  in_vector : (j k : Kind) → IsUnsigned j → IsPlaceIn (VectorOf k) j k
  in_map : (j k : Kind) → IsPlaceIn (MapOf j k) j k

-- what has items at keys; a member of a tuple and a range of a bitfield stand at a number that is known
pub data IsItemOf : Kind → Kind → Kind → Type 0 where
  of_place : (c j k : Kind) → IsPlaceIn c j k → IsItemOf c j k
  of_tuple : (ks : Kinds) (n : ℕ) (k : Kind) → kind_in ks n ≡ Some k → IsItemOf (TupleOf ks) (Only n) k
  of_bits : (b count n : ℕ) → n < count → IsItemOf (BitsOf b count) (Only n) Unsigned

-- what a loop goes over, and the kind of its members
pub data IsGoneOver : Kind → Kind → Type 0 where
  over_vector : (k : Kind) → IsGoneOver (VectorOf k) k
  over_set : (k : Kind) → IsGoneOver (SetOf k) k
  over_bytes : IsGoneOver Bytes Unsigned
  over_map : (j k : Kind) → IsGoneOver (MapOf j k) (TupleOf (kinds_of (j ∷ k ∷ [])))

-- what an assertion has as its text
abbrev pub IsMessage : Kind → Type 0
IsMessage k = (k ≡ Void) ⊎ (k ≡ Text)

-- the kinds of keys and values in turn, a value on top
abbrev pub in_turn : ℕ → Kind → Kind → List Kind
in_turn zero j k = []
in_turn (suc n) j k = k ∷ in_turn n k j
