-- What is read, by the attributes that can stand on it.
use Rattle.std.specs.Prelude.{ℕ, Option, Some, None}
use Rattle.sp_typed.specs.Exprs.{Expr}
use Rattle.sp_typed_units.specs.declared.readings.TokenOp.{TokenOp}
use Rattle.sp_typed_units.specs.declared.readings.TokenOp.TheVariants as token_is
use Rattle.sp_typed_units.specs.declared.readings.ReadOp.{ReadOp}
use Rattle.sp_typed_units.specs.declared.readings.ReadOp.TheVariants as read_is
use Rattle.sp_typed_units.specs.Specs.{Spec, read, unit_read, list_read, group_read}
use Rattle.sp_type_fields.specs.declared.roles.Kind.{Kind}
use Rattle.sp_type_fields.specs.declared.roles.Kind.TheVariants as kind_is
use Rattle.sp_type_fields.specs.declared.roles.Holder.{Holder}
use Rattle.sp_type_fields.specs.declared.roles.Holder.TheVariants as holder_is
use Rattle.sp_type_fields.specs.Roles.{grouped}

abbrev pub token_kind : TokenOp → Kind
token_kind (token_is.Number n) = kind_is.TypedLiteral
token_kind _ = kind_is.Literal

abbrev pub read_kind : ReadOp → Kind
read_kind read_is.Int = kind_is.Integer
read_kind (read_is.Bits n) = kind_is.Bitfield
read_kind read_is.Bytes = kind_is.Bytes
read_kind (read_is.Token t constant) = token_kind t
read_kind read_is.Void = kind_is.Void
read_kind (read_is.Broken w) = kind_is.Broken

abbrev pub list_kind : Option Expr → Kind
list_kind None = kind_is.Open
list_kind (Some n) = kind_is.Counted

abbrev pub kind_of : Spec → Kind
kind_of (read h) = read_kind h.op
kind_of (unit_read h es) = kind_is.Unit
kind_of (list_read at s n) = list_kind n
kind_of (group_read at s attributes) = grouped (kind_of s)

-- a field with a name, or without
abbrev pub holder_of : Option ℕ → Holder
holder_of None = holder_is.AnonymousField
holder_of (Some n) = holder_is.NamedField
