-- Attributes: in what their values are typed, and to what these go.
use Rattle.std.specs.Prelude.{ℕ, Bool, true, false, List, [], ◌∷◌, Option, Some, None}
use Rattle.sp_base.specs.declared.places.Span.{Span}
use Rattle.sp_words.specs.declared.words.AttributeName.{AttributeName}
use Rattle.sp_words.specs.declared.words.AttributeName.TheVariants as name_is
use Rattle.sp_ast.specs.Trees.{Tree, Trees, node, none, more}
use Rattle.sp_ast.specs.declared.forms.Form.TheVariants as form_is
use Rattle.sp_types.specs.Types.{Ty, made}
use Rattle.sp_types.specs.declared.words.Maker.TheVariants as maker_is
use Rattle.sp_typed.specs.Exprs.{Expr}
use Rattle.sp_typed_units.specs.declared.attributes.Attribute.{Attribute}
use Rattle.sp_type_operands.specs.Operands.{unknown, first_type}
use Rattle.sp_type_operands.specs.Literals.{seen}
use Rattle.sp_type_context.specs.Contexts.{Around}
use Rattle.sp_type_context.specs.Typing.{typed, to_target}
use Rattle.sp_type_fields.specs.declared.attributes.Site.{Site}
use Rattle.sp_type_fields.specs.declared.roles.Role.{Role}
use Rattle.sp_type_fields.specs.declared.roles.Role.TheVariants as role_is
use Rattle.sp_type_fields.specs.Roles.{role_of}
use Rattle.sp_type_fields.specs.Values.{Values}
use Rattle.sp_type_scopes.specs.Decorators.{meant}
use Rattle.sp_ast.specs.Views.{present}

-- its typed expression
abbrev pub maybe_typed : Around → Option Tree → Option Expr
maybe_typed g None = None
maybe_typed g (Some t) = Some (typed g t)

-- the type of the elements of a container
abbrev pub element_of : Ty → Ty
element_of (made maker_is.Vector ts) = first_type ts
element_of _ = unknown

-- a default goes to the type of its field; behind a group, which is no field, it goes nowhere
abbrev pub default_typed : Bool → Ty → Expr → Expr
default_typed true stored e = to_target stored e
default_typed false stored e = e

-- The value of an attribute. `$$` is what is read, in a conversion; what it becomes, in a requirement; an element, in a test of
-- elements; it is of unknown type where no value is asked for, and is not meant elsewhere.
abbrev pub value_typed : Around → Role → Site → Tree → Expr
value_typed g role_is.Conversion s e = typed (meant s.read g) e
value_typed g role_is.Requirement s e = typed (meant s.stored g) e
value_typed g role_is.Test s e = typed (meant (element_of s.read) g) e
value_typed g role_is.Unasked s e = typed (meant unknown g) e
value_typed g role_is.Alone s e = typed (meant unknown g) e
value_typed g role_is.Default s e = default_typed s.of_field s.stored (typed g e)
value_typed g _ s e = typed g e

abbrev pub maybe_value : Around → Role → Site → Option Tree → Option Expr
maybe_value g r s None = None
maybe_value g r s (Some e) = Some (value_typed g r s e)

-- the number of an order, and the bytes of a delimiter
abbrev pub order_number : Values → Role → Option Expr → Option ℕ
order_number v role_is.Order (Some e) = v.number e
order_number v _ _ = None

abbrev pub delimiter_bytes : Values → Role → Option Expr → Option (List ℕ)
delimiter_bytes v role_is.Delimiter (Some e) = v.bytes e
delimiter_bytes v _ _ = None

abbrev pub attribute_with : Values → Role → Span → AttributeName → Option Expr → Attribute
attribute_with v r span name value =
    record { span = span; name = name; value = value; number = order_number v r value; bytes = delimiter_bytes v r value }

abbrev pub attribute_by : Around → Values → Site → Role → Span → AttributeName → Option Tree → Attribute
attribute_by g v s r span name value = attribute_with v r span name (maybe_value g r s value)

-- the attributes behind what is read, in the order of the text
abbrev pub attributes : Around → Values → Site → Trees → List Attribute
attributes g v s none = []
attributes g v s (more (node (form_is.Attribute name) span (more value none)) ts) =
    attribute_by g v s (role_of s.kind name) span name (present value) ∷ attributes g v s ts
attributes g v s (more t ts) = attributes g v s ts

-- the value of an attribute that is `&convert`
abbrev pub if_convert : AttributeName → Option Tree → Option Tree
if_convert name_is.Convert value = value
if_convert _ value = None

abbrev pub conversion_of : Tree → Option Tree
conversion_of (node (form_is.Attribute name) span (more value none)) = if_convert name (present value)
conversion_of _ = None

-- the value of the first `&convert` that has one
abbrev pub or_next : Option Tree → Option Tree → Option Tree
or_next (Some e) next = Some e
or_next None next = next

abbrev pub conversion : Trees → Option Tree
conversion none = None
conversion (more t ts) = or_next (conversion_of t) (conversion ts)

-- the type of what is stored: what is read, or what that is converted to
abbrev pub converted : Around → Ty → Option Tree → Ty
converted g read None = read
converted g read (Some e) = seen (typed (meant read g) e)
