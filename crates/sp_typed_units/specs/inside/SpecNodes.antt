-- All expressions of how something is read, so that a rule is a test on one node.
use Rattle.std.specs.Prelude.{Bool, true, false, not, ◌&&◌, List, [], ◌∷◌, ◌++◌, Option, Some, None, IsTrue}
use Rattle.std.specs.List.{list_all}
use Rattle.sp_types.specs.Types.{is_known}
use Rattle.sp_typed.specs.Exprs.{Expr}
use Rattle.sp_typed.specs.Nodes.{nodes, all_nodes, is_sound}
use Rattle.sp_typed_units.specs.declared.attributes.Attribute.{Attribute}
use Rattle.sp_typed_units.specs.declared.readings.ReadOp.{ReadOp}
use Rattle.sp_typed_units.specs.declared.readings.ReadOp.TheVariants as read_is
use Rattle.sp_typed_units.specs.declared.items.Field.{Field}
use Rattle.sp_typed_units.specs.Specs.{Spec, read, unit_read, list_read, group_read}
use Rattle.sp_typed_units.specs.Parts.{Part, Parts, Arms, field, choice, no_parts, more_parts, no_arms, more_arms}

-- the nodes of an expression that may be left out
abbrev pub option_nodes : Option Expr → List Expr
option_nodes None = []
option_nodes (Some e) = nodes e

abbrev pub list_nodes : List Expr → List Expr
list_nodes [] = []
list_nodes (e ∷ es) = nodes e ++ list_nodes es

-- the nodes of the values of attributes
abbrev pub attribute_nodes : List Attribute → List Expr
attribute_nodes [] = []
attribute_nodes (a ∷ l) = option_nodes a.value ++ attribute_nodes l

-- all nodes of the expressions of how something is read
abbrev pub spec_nodes : Spec → List Expr
spec_nodes (read h) = []
spec_nodes (unit_read h es) = all_nodes es
spec_nodes (list_read at s n) = spec_nodes s ++ option_nodes n
spec_nodes (group_read at s l) = spec_nodes s ++ attribute_nodes l

-- all readings in a reading, itself among them
abbrev pub specs_in : Spec → List Spec
specs_in (read h) = read h ∷ []
specs_in (unit_read h es) = unit_read h es ∷ []
specs_in (list_read at s n) = list_read at s n ∷ specs_in s
specs_in (group_read at s l) = group_read at s l ∷ specs_in s

abbrev pub field_nodes : Field → List Expr
field_nodes f = spec_nodes f.spec ++ (attribute_nodes f.attributes ++ (option_nodes f.condition ++ option_nodes f.sink))

-- all nodes of the expressions of a part of a unit and of those in it
abbrev mutual
  pub part_nodes : Part → List Expr
  part_nodes (field f) = field_nodes f
  part_nodes (choice at e rows) = option_nodes e ++ arms_nodes rows

  pub parts_nodes : Parts → List Expr
  parts_nodes no_parts = []
  parts_nodes (more_parts p ps) = part_nodes p ++ parts_nodes ps

  pub arms_nodes : Arms → List Expr
  arms_nodes no_arms = []
  arms_nodes (more_arms a ps rest) = list_nodes a.values ++ (parts_nodes ps ++ arms_nodes rest)

-- all fields of a part of a unit
abbrev mutual
  pub fields_in : Part → List Field
  fields_in (field f) = f ∷ []
  fields_in (choice at e rows) = fields_in_arms rows

  pub fields_in_all : Parts → List Field
  fields_in_all no_parts = []
  fields_in_all (more_parts p ps) = fields_in p ++ fields_in_all ps

  pub fields_in_arms : Arms → List Field
  fields_in_arms no_arms = []
  fields_in_arms (more_arms a ps rest) = fields_in_all ps ++ fields_in_arms rest

-- whether something can be read, and is of a known type
abbrev pub is_read : ReadOp → Bool
is_read (read_is.Broken at) = false
is_read _ = true

abbrev pub is_sound_spec : Spec → Bool
is_sound_spec (read h) = is_read h.op && is_known h.ty
is_sound_spec _ = true

abbrev pub is_sound_field : Field → Bool
is_sound_field f = not f.taken && (is_known f.ty && list_all is_sound_spec (specs_in f.spec))

-- A part of a unit in which no node is a word, all types are known, and everything can be read.
abbrev pub IsWholePart : Part → Type 0
IsWholePart p = IsTrue (list_all is_sound (part_nodes p)) × IsTrue (list_all is_sound_field (fields_in p))
