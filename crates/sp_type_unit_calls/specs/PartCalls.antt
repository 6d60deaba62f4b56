-- Whether the parts and the variables of a unit call a method of a unit: whether some expression in them does.
use Rattle.std.specs.Prelude.{Bool, false, ◌||◌, List}
use Rattle.std.specs.List.{list_any}
use Rattle.sp_typed.specs.declared.words.UnitMethod.{UnitMethod}
use Rattle.sp_typed_units.specs.declared.attributes.Attribute.{Attribute}
use Rattle.sp_typed_units.specs.declared.items.Field.{Field}
use Rattle.sp_typed_units.specs.declared.declarations.Variable.{Variable}
use Rattle.sp_typed_units.specs.Specs.{Spec, read, unit_read, list_read, group_read}
use Rattle.sp_typed_units.specs.Parts.{Part, Parts, Arms, field, choice, no_parts, more_parts, no_arms, more_arms}
use Rattle.sp_type_unit_calls.specs.Calls.{expr_calls, exprs_call, option_calls}

-- a call in the value of an attribute
abbrev pub attribute_calls : UnitMethod → Attribute → Bool
attribute_calls k a = option_calls k a.value

-- a call in how something is read: in arguments of a unit, in the count of a container, in attributes of a group
abbrev pub spec_calls : UnitMethod → Spec → Bool
spec_calls k (read h) = false
spec_calls k (unit_read h es) = exprs_call k es
spec_calls k (list_read at s n) = spec_calls k s || option_calls k n
spec_calls k (group_read at s l) = spec_calls k s || list_any (attribute_calls k) l

-- a call in a field: in how it is read, in its attributes, in its condition, or in what stands behind its `->`
abbrev pub field_calls : UnitMethod → Field → Bool
field_calls k f =
    spec_calls k f.spec || (list_any (attribute_calls k) f.attributes || (option_calls k f.condition || option_calls k f.sink))

-- a call in a part: in a field, or in what the arms of a switch are compared with, in their values and their parts
abbrev mutual
  pub part_calls : UnitMethod → Part → Bool
  part_calls k (field f) = field_calls k f
  part_calls k (choice at e rows) = option_calls k e || arms_call k rows

  pub parts_call : UnitMethod → Parts → Bool
  parts_call k no_parts = false
  parts_call k (more_parts p ps) = part_calls k p || parts_call k ps

  pub arms_call : UnitMethod → Arms → Bool
  arms_call k no_arms = false
  arms_call k (more_arms a ps rest) = list_any (expr_calls k) a.values || (parts_call k ps || arms_call k rest)

-- a call in the value with which a variable begins
abbrev pub variable_calls : UnitMethod → Variable → Bool
variable_calls k v = option_calls k v.value

abbrev pub variables_call : UnitMethod → List Variable → Bool
variables_call k vs = list_any (variable_calls k) vs
