-- The reading that one level of the code's is.
use Rattle.sp_typed.specs.Exprs.{exprs}
use Rattle.sp_typed_units.specs.Specs.{Spec, read, unit_read, list_read, group_read}
use Rattle.sp_typed_units.specs.declared.readings.SpecNode.{SpecNode}
use Rattle.sp_typed_units.specs.declared.readings.SpecNode.TheVariants as node_is

abbrev pub spec_of : SpecNode → Spec
spec_of (node_is.Read h) = read h
spec_of (node_is.Unit h es) = unit_read h (exprs es.items)
spec_of (node_is.List at s n) = list_read at s.value n
spec_of (node_is.Group at s attributes) = group_read at s.value attributes.items
