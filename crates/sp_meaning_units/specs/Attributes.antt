-- The attributes of a field or a group: which are there, with their values, and what they say of the order of bytes and bits.
use Rattle.std.specs.Prelude.{ℕ, Bool, true, false, List, [], ◌∷◌, Option, Some, None, if◌then◌else◌}
use Rattle.sp_words.specs.declared.words.AttributeName.{AttributeName}
use Rattle.sp_words.specs.declared.words.AttributeName.TheVariants as name_is
use Rattle.sp_value.specs.Val.{Val}
use Rattle.sp_typed.specs.Exprs.{Expr}
use Rattle.sp_typed_units.specs.declared.attributes.Attribute.{Attribute}

-- what an attribute is for
abbrev pub is_named : AttributeName → AttributeName → Bool
is_named name_is.Size name_is.Size = true
is_named name_is.MaxSize name_is.MaxSize = true
is_named name_is.Eod name_is.Eod = true
is_named name_is.Until name_is.Until = true
is_named name_is.UntilIncluding name_is.UntilIncluding = true
is_named name_is.While name_is.While = true
is_named name_is.Convert name_is.Convert = true
is_named name_is.Requires name_is.Requires = true
is_named name_is.ByteOrder name_is.ByteOrder = true
is_named name_is.BitOrder name_is.BitOrder = true
is_named name_is.ParseFrom name_is.ParseFrom = true
is_named name_is.ParseAt name_is.ParseAt = true
is_named name_is.Try name_is.Try = true
is_named name_is.Synchronize name_is.Synchronize = true
is_named name_is.Default name_is.Default = true
is_named name other = false

-- the attribute of a name, of which there is one at most
abbrev pub named : AttributeName → List Attribute → Option Attribute
named name [] = None
named name (a ∷ rest) = if is_named name a.name then Some a else named name rest

abbrev pub is_there : Option Attribute → Bool
is_there (Some a) = true
is_there None = false

abbrev pub has : AttributeName → List Attribute → Bool
has name attributes = is_there (named name attributes)

-- its value, and the bytes of a delimiter
abbrev pub value_in : Option Attribute → Option Expr
value_in (Some a) = a.value
value_in None = None

abbrev pub value_of : AttributeName → List Attribute → Option Expr
value_of name attributes = value_in (named name attributes)

abbrev pub bytes_in : Option Attribute → Option (List ℕ)
bytes_in (Some a) = a.bytes
bytes_in None = None

abbrev pub delimiter_of : AttributeName → List Attribute → Option (List ℕ)
delimiter_of name attributes = bytes_in (named name attributes)

-- the order that an attribute says, and else the one that stands outside
abbrev pub order_in : Option Attribute → Option ℕ → Option ℕ
order_in (Some a) outside = a.number
order_in None outside = outside

-- What stands round a reading: the orders of bytes and bits, as numbers of the library's labels, and the offset of the field whose
-- `&parse-from` is read.
pub record Around : Type 0 where
  pub byte_order : Option ℕ
  pub bit_order : Option ℕ
  pub offset : Option Val

-- the same inside of these attributes
abbrev pub ordered : Around → List Attribute → Around
ordered around attributes =
    record around {
      byte_order = order_in (named name_is.ByteOrder attributes) around.byte_order;
      bit_order = order_in (named name_is.BitOrder attributes) around.bit_order;
    }
