-- Which kinds of values each operator takes.
use Rattle.std.specs.Prelude.{Bool, true, false, ◌==◌}
use Rattle.sp_value.specs.Val.{Val, bool, uint, int, bytes, str, enum, vector, set, map, place}
use Rattle.sp_value.specs.Order.{kind}
use Rattle.sp_words.specs.declared.operators.BinaryOp.{BinaryOp}
use Rattle.sp_words.specs.declared.operators.BinaryOp.TheVariants.{Or, And, In, NotIn, Equal, NotEqual, Less, LessEqual, Greater, GreaterEqual, BitOr, BitXor, BitAnd, ShiftLeft, ShiftRight, Add, Subtract, Multiply, Divide, Remainder}
use Rattle.sp_words.specs.declared.operators.UnaryOp.{UnaryOp}
use Rattle.sp_words.specs.declared.operators.UnaryOp.TheVariants.{Not, Negate, Complement}
use Rattle.sp_operators.specs.declared.plain_type.PlainType.{PlainType}
use Rattle.sp_operators.specs.declared.plain_type.PlainType.TheVariants.{Uint, Int, Enum}

-- two Booleans
abbrev pub are_booleans : Val → Val → Bool
are_booleans (bool _) (bool _) = true
are_booleans _ _ = false

-- integers of one signedness
abbrev pub are_integers : Val → Val → Bool
are_integers (uint _ _) (uint _ _) = true
are_integers (int _ _) (int _ _) = true
are_integers _ _ = false

abbrev pub are_unsigned : Val → Val → Bool
are_unsigned (uint _ _) (uint _ _) = true
are_unsigned _ _ = false

-- two bytes or two texts: their sum takes memory
abbrev pub are_joined : Val → Val → Bool
are_joined (bytes _) (bytes _) = true
are_joined (str _) (str _) = true
are_joined _ _ = false

-- integers of one signedness, two bytes, two texts, or an iterator and how far it goes
abbrev pub are_added : Val → Val → Bool
are_added (bytes _) (bytes _) = true
are_added (str _) (str _) = true
are_added (place _) (uint _ _) = true
are_added a b = are_integers a b

-- integers of one signedness, two bytes, two texts, or two iterators
abbrev pub are_ordered : Val → Val → Bool
are_ordered (bytes _) (bytes _) = true
are_ordered (str _) (str _) = true
are_ordered (place _) (place _) = true
are_ordered a b = are_integers a b

-- two values of one kind
abbrev pub are_alike : Val → Val → Bool
are_alike a b = kind a == kind b

-- a key and a set or a map, or two bytes
abbrev pub can_hold : Val → Val → Bool
can_hold _ (set _) = true
can_hold _ (map _) = true
can_hold (bytes _) (bytes _) = true
can_hold _ _ = false

-- whether two values can stand before and behind an operator
abbrev pub takes : BinaryOp → Val → Val → Bool
takes Or a b = are_booleans a b
takes And a b = are_booleans a b
takes In a b = can_hold a b
takes NotIn a b = can_hold a b
takes Equal a b = are_alike a b
takes NotEqual a b = are_alike a b
takes Less a b = are_ordered a b
takes LessEqual a b = are_ordered a b
takes Greater a b = are_ordered a b
takes GreaterEqual a b = are_ordered a b
takes BitOr a b = are_unsigned a b
takes BitXor a b = are_unsigned a b
takes BitAnd a b = are_unsigned a b
takes ShiftLeft a b = are_unsigned a b
takes ShiftRight a b = are_unsigned a b
takes Add a b = are_added a b
takes Subtract a b = are_integers a b
takes Multiply a b = are_integers a b
takes Divide a b = are_integers a b
takes Remainder a b = are_integers a b

-- whether an operator between two values takes memory
abbrev pub takes_memory : BinaryOp → Val → Val → Bool
takes_memory Add a b = are_joined a b
takes_memory _ a b = false

-- whether an operator on one value takes it
abbrev pub takes_one : UnaryOp → Val → Bool
takes_one Not (bool _) = true
takes_one Negate (int _ _) = true
takes_one Complement (uint _ _) = true
takes_one _ _ = false

-- whether a value has a size: bytes, a text, a vector, a set and a map have one
abbrev pub has_size : Val → Bool
has_size (bytes _) = true
has_size (str _) = true
has_size (vector _) = true
has_size (set _) = true
has_size (map _) = true
has_size _ = false

-- a cast goes from an integer to an integer or an enum, and from an enum to an unsigned integer
abbrev pub is_cast : Val → PlainType → Bool
is_cast (uint _ _) (Uint _) = true
is_cast (uint _ _) (Int _) = true
is_cast (uint _ _) (Enum _) = true
is_cast (int _ _) (Uint _) = true
is_cast (int _ _) (Int _) = true
is_cast (int _ _) (Enum _) = true
is_cast (enum _ _) (Uint _) = true
is_cast _ _ = false
