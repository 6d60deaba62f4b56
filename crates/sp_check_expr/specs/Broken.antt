-- The rules of bodies that are broken in a typed list.
use Rattle.sp_rules.specs.declared.fault.Fault.{Fault}
use Rattle.sp_typed_units.specs.declared.declarations.Typed.{Typed}
use Rattle.sp_rule_lists.specs.Told.{values_of}
use Rattle.sp_rule_lists.specs.Broken.{BreaksIn}

-- A rule of bodies is broken in a typed list, whose constants have the values that it tells.
abbrev pub BreaksBody : Typed → Fault → Type 0
BreaksBody t f = BreaksIn t (values_of t) f
