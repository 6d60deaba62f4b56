use Rattle.std.proofs.Common.{◌≡◌, drop}
use Rattle.std.specs.List.{list_any}
use Rattle.sp_type_unit_calls.specs.PartCalls.{attribute_calls}
use Rattle.sp_type_unit_calls.proofs.parts.attributes_call.Given as goal

abbrev pub invariant-loop-attribute : goal.invariant-loop-attribute
invariant-loop-attribute l = list_any (attribute_calls l.method) (drop l.attribute-index l.attributes) ≡ list_any (attribute_calls l.method) l.attributes
