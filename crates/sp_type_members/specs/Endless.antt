-- Conversions that are made of themselves: those of fields from which conversions lead to a member that is made of itself. Such a
-- member has no type, and it alone has none: so each hangs on a member without a type.
use Rattle.std.specs.Prelude.{ℕ, List, length, Option, Some, None, slice_get}
use Rattle.sp_base.specs.declared.places.Span.{Span}
use Rattle.sp_ast.specs.Trees.{Tree, row, node, none, more, span_of}
use Rattle.sp_ast.specs.declared.forms.Form.TheVariants as form_is
use Rattle.sp_ast.specs.declared.forms.BaseForm.TheVariants as base_is
use Rattle.sp_types.specs.Types.{Ty}
use Rattle.sp_type_context.specs.Contexts.{Around}
use Rattle.sp_type_context.specs.Typing.{or_else}
use Rattle.sp_type_fields.specs.Values.{Values}
use Rattle.sp_type_fields.specs.Attributes.{conversion}
use Rattle.sp_type_fields.specs.Readings.{counted_read}
use Rattle.sp_solver.specs.Told.{told}
use Rattle.sp_type_modules.specs.Sources.{questions}
use Rattle.sp_type_members.specs.Opens.{conversion_open}
use Rattle.sp_type_members.specs.Tries.{in_unit}

abbrev pub span_if : Option ℕ → Span → Option Span
span_if None span = None
span_if (Some j) span = Some span

-- where the value of a conversion stands that hangs on a member without a type
abbrev pub conversion_place : List Tree → ℕ → (ℕ → Option Ty) → Around → Ty → Option Tree → Option Span
conversion_place list count f g t None = None
conversion_place list count f g t (Some e) = span_if (conversion_open list count f g t (Some e)) (span_of e)

-- the first such conversion in groups, from the inside
abbrev pub base_place : List Tree → ℕ → (ℕ → Option Ty) → Around → Values → Tree → Option Span
base_place list count f g v (node (form_is.Base base_is.Group) at (more inner (more (row counts) (more (row ts) none)))) =
    or_else (base_place list count f g v inner) (conversion_place list count f g (counted_read g v inner counts).ty (conversion ts))
base_place list count f g v t = None

-- the first of a field: those in groups, and then its own
abbrev pub field_place : List Tree → ℕ → (ℕ → Option Ty) → Around → Values → Tree → Option Span
field_place list count f g v (node form_is.Field span (more name (more base (more (row counts) (more (row ts) rest))))) =
    or_else (base_place list count f g v base) (conversion_place list count f g (counted_read g v base counts).ty (conversion ts))
field_place list count f g v t = None

-- in the context of the unit n, if it has one
abbrev pub unit_place : List Tree → ℕ → (ℕ → Option Ty) → Values → ℕ → Tree → Option Around → Option Span
unit_place list count f v n t None = None
unit_place list count f v n t (Some g) = field_place list count f (in_unit list f n g) v t

-- Where these are the types of the members of all units: the place in a field of the unit n of its first conversion that is made of
-- itself, whether or not the field is a member. Whichever field it is, it may stand in an arm of a switch, and have no name, or one that
-- came before.
abbrev pub place_of : List Tree → List Around → Values → List (Option Ty) → ℕ → Tree → Option Span
place_of list contexts v types n t = unit_place list (length (questions list)) (told types) v n t (slice_get contexts n)
