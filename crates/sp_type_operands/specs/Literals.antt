-- Literals: what type they take, and whether it has their number.
use Rattle.std.specs.Prelude.{ℕ, ◌-◌, ◌^◌, ◌==◌, Bool, true, false, not, ◌&&◌, nat_lt, nat_le, if◌then◌else◌}
use Rattle.sp_numbers.specs.Numbers.{width_bits}
use Rattle.sp_numbers.specs.declared.width.Width.TheVariants.{W64}
use Rattle.sp_types.specs.declared.words.Word.{Word}
use Rattle.sp_types.specs.declared.words.Word.TheVariants as word_is
use Rattle.sp_types.specs.Types.{Ty, word, made}
use Rattle.sp_typed.specs.declared.words.LeafOp.{LeafOp}
use Rattle.sp_typed.specs.declared.words.LeafOp.TheVariants as leaf_is
use Rattle.sp_typed.specs.Exprs.{Expr, leaf, one, type_of, is_literal, settled}
use Rattle.sp_type_operands.specs.Operands.{unknown}

-- the types of a literal by itself: without and with a minus sign
abbrev pub unsigned_literal : Word
unsigned_literal = word_is.Uint W64

abbrev pub signed_literal : Word
signed_literal = word_is.Int W64

abbrev pub leaf_number : LeafOp → ℕ
leaf_number (leaf_is.Number n) = n
leaf_number (leaf_is.TypedNumber n) = n
leaf_number _ = 0

-- the number of a literal, without its sign
abbrev pub number_of : Expr → ℕ
number_of (leaf h) = leaf_number h.op
number_of (one h (leaf i)) = leaf_number i.op
number_of _ = 0

-- whether a literal has a minus sign
abbrev pub is_negative : Expr → Bool
is_negative (one h a) = true
is_negative _ = false

-- a literal can take any integer type
abbrev pub can_take : Word → Bool
can_take (word_is.Uint _) = true
can_take (word_is.Int _) = true
can_take _ = false

-- a literal with the type of its place, where it can take that
abbrev pub taken : Ty → Expr → Expr
taken (word w) e = if is_literal e && can_take w then settled w e else e
taken (made _ _) e = e

-- whether an integer type has a number, with a minus sign or without; each has a zero with a minus sign
abbrev pub has_number : Word → Bool → ℕ → Bool
has_number (word_is.Uint w) false n = nat_lt n (2 ^ width_bits w)
has_number (word_is.Uint w) true n = n == 0
has_number (word_is.Int w) false n = nat_lt n (2 ^ (width_bits w - 1))
has_number (word_is.Int w) true n = nat_le n (2 ^ (width_bits w - 1))
has_number _ negative n = true

abbrev pub type_has : Ty → Bool → ℕ → Bool
type_has (word w) negative n = has_number w negative n
type_has (made _ _) negative n = true

-- a number whose type is written, as `uint8(1)`
abbrev pub typed_leaf : LeafOp → Bool
typed_leaf (leaf_is.TypedNumber n) = true
typed_leaf _ = false

abbrev pub is_typed_number : Expr → Bool
is_typed_number (leaf h) = typed_leaf h.op
is_typed_number _ = false

-- a number past its type
abbrev pub is_over : Expr → Bool
is_over e =
    if is_literal e then not (type_has (type_of e) (is_negative e) (number_of e)) else
    if is_typed_number e then not (type_has (type_of e) false (number_of e)) else false

-- a literal past the type of its place
abbrev pub is_past : Expr → Bool
is_past e = is_literal e && is_over e

-- The type that a node round an expression sees. That of a literal past it is unknown; a number whose type is written before it
-- has that type, also where it is past it.
abbrev pub seen : Expr → Ty
seen e = if is_past e then unknown else type_of e

-- two literals have one type: signed where one of them has a minus sign
abbrev pub literal_word : Bool → Word
literal_word true = signed_literal
literal_word false = unsigned_literal
