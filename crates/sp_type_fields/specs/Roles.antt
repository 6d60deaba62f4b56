-- Where each attribute can stand, and what it is for.
use Rattle.std.specs.Prelude.{Bool, true, false, not, ◌&&◌}
use Rattle.sp_words.specs.declared.words.AttributeName.{AttributeName}
use Rattle.sp_words.specs.declared.words.AttributeName.TheVariants as name_is
use Rattle.sp_type_fields.specs.declared.roles.Kind.{Kind}
use Rattle.sp_type_fields.specs.declared.roles.Kind.TheVariants as kind_is
use Rattle.sp_type_fields.specs.declared.roles.Holder.{Holder}
use Rattle.sp_type_fields.specs.declared.roles.Holder.TheVariants as holder_is
use Rattle.sp_type_fields.specs.declared.roles.Role.{Role}
use Rattle.sp_type_fields.specs.declared.roles.Role.TheVariants as role_is

-- all but literals and void can be read in a part of the input, or from elsewhere
abbrev pub has_view : Kind → Bool
has_view kind_is.Literal = false
has_view kind_is.TypedLiteral = false
has_view kind_is.Void = false
has_view _ = true

abbrev pub has_byte_order : Kind → Bool
has_byte_order kind_is.Integer = true
has_byte_order kind_is.Bitfield = true
has_byte_order kind_is.TypedLiteral = true
has_byte_order kind_is.Broken = true
has_byte_order _ = false

abbrev pub has_bit_order : Kind → Bool
has_bit_order kind_is.Bitfield = true
has_bit_order kind_is.Broken = true
has_bit_order _ = false

-- what may go on up to the end of the data
abbrev pub is_bytes_or_open : Kind → Bool
is_bytes_or_open kind_is.Bytes = true
is_bytes_or_open kind_is.Open = true
is_bytes_or_open kind_is.Broken = true
is_bytes_or_open _ = false

-- containers whose end the input tells
abbrev pub is_open : Kind → Bool
is_open kind_is.Open = true
is_open kind_is.Broken = true
is_open _ = false

abbrev pub is_named : Holder → Bool
is_named holder_is.NamedField = true
is_named _ = false

abbrev pub is_group : Holder → Bool
is_group holder_is.Group = true
is_group _ = false

-- Whether an attribute can stand behind what holds it, on what is read. On what can't be read any can.
abbrev pub may_stand : Holder → Kind → AttributeName → Bool
may_stand h k name_is.Size = has_view k
may_stand h k name_is.MaxSize = has_view k
may_stand h k name_is.Eod = is_bytes_or_open k
may_stand h k name_is.Until = is_bytes_or_open k
may_stand h k name_is.UntilIncluding = is_bytes_or_open k
may_stand h k name_is.While = is_open k
may_stand h k name_is.Convert = true
may_stand h k name_is.Requires = true
may_stand h k name_is.Default = is_named h
may_stand h k name_is.ByteOrder = has_byte_order k
may_stand h k name_is.BitOrder = has_bit_order k
may_stand h k name_is.ParseFrom = not (is_group h) && has_view k
may_stand h k name_is.ParseAt = not (is_group h) && has_view k
may_stand h k name_is.Try = not (is_group h)
may_stand h k name_is.Synchronize = true

-- `&until` and `&until-including`: bytes end at a delimiter, a container by a test of its elements, also one that has a count
abbrev pub delimiting : Kind → Role
delimiting kind_is.Bytes = role_is.Delimiter
delimiting kind_is.Open = role_is.Test
delimiting kind_is.Counted = role_is.Test
delimiting _ = role_is.Unasked

-- What an attribute is for, which its name tells, also where it can't stand; how something ends hangs on what is read.
abbrev pub role_of : Kind → AttributeName → Role
role_of k name_is.Size = role_is.Amount
role_of k name_is.MaxSize = role_is.Amount
role_of k name_is.Eod = role_is.Alone
role_of k name_is.Until = delimiting k
role_of k name_is.UntilIncluding = delimiting k
role_of k name_is.While = role_is.Test
role_of k name_is.Convert = role_is.Conversion
role_of k name_is.Requires = role_is.Requirement
role_of k name_is.Default = role_is.Default
role_of k name_is.ByteOrder = role_is.Order
role_of k name_is.BitOrder = role_is.Order
role_of k name_is.ParseFrom = role_is.Source
role_of k name_is.ParseAt = role_is.Place
role_of k name_is.Try = role_is.Alone
role_of k name_is.Synchronize = role_is.Alone

-- What stands in parentheses takes no bound and no order. It is a literal where a literal is inside.
abbrev pub grouped : Kind → Kind
grouped kind_is.Literal = kind_is.Literal
grouped kind_is.TypedLiteral = kind_is.Literal
grouped kind_is.Void = kind_is.Void
grouped kind_is.Broken = kind_is.Broken
grouped _ = kind_is.Unit
