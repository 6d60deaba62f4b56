-- The part of a unit that one level of the code's is.
use Rattle.sp_typed_units.specs.Parts.{Part, field, choice, arms}
use Rattle.sp_typed_units.specs.declared.items.PartNode.{PartNode}
use Rattle.sp_typed_units.specs.declared.items.PartNode.TheVariants as node_is

abbrev pub part_of : PartNode → Part
part_of (node_is.Field h) = field h
part_of (node_is.Switch at e rows) = choice at e (arms rows.items)
