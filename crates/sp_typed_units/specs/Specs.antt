-- How a field, an element or a group is read, apart from memory.
use Rattle.std.specs.Prelude.{List, Option}
use Rattle.sp_base.specs.declared.places.Span.{Span}
use Rattle.sp_typed.specs.Exprs.{Expr, Exprs}
use Rattle.sp_typed_units.specs.declared.attributes.Attribute.{Attribute}
use Rattle.sp_typed_units.specs.declared.readings.Reading.{Reading}
use Rattle.sp_typed_units.specs.declared.readings.UnitOf.{UnitOf}

-- What is read as one; a unit with its arguments; a container with its element, and how many there are where that is
-- written; what stands in parentheses, with its attributes in the order of the text.
pub data Spec : Type 0 where
  read : Reading → Spec
  unit_read : UnitOf → Exprs → Spec
  list_read : Span → Spec → Option Expr → Spec
  group_read : Span → Spec → List Attribute → Spec
