-- The members of units and of bitfields, by their names and numbers.
use Rattle.std.specs.Prelude.{ℕ, ◌+◌, zero, suc, Bool, not, if◌then◌else◌, List, [], ◌∷◌, ◌++◌, length, filter, Option, Some, None, slice_get}
use Rattle.std.specs.Str.{bytes_eq}
use Rattle.sp_ast.specs.Trees.{Tree, Trees, absent, row, node, none, more}
use Rattle.sp_ast.specs.declared.forms.Form.TheVariants as form_is
use Rattle.sp_ast.specs.declared.forms.TypeForm.TheVariants as type_is
use Rattle.sp_ast.specs.declared.forms.ItemForm.TheVariants as item_is
use Rattle.sp_ast.specs.declared.forms.PartForm.TheVariants as part_is
use Rattle.sp_ast.specs.declared.forms.BodyForm.TheVariants as body_is
use Rattle.sp_typed_units.specs.declared.declarations.MemberKind.{MemberKind}
use Rattle.sp_typed_units.specs.declared.declarations.MemberKind.TheVariants as kind_is
use Rattle.sp_names.specs.declared.rows.Declaration.{Declaration}
use Rattle.sp_names.specs.declared.rows.Bitfield.{Bitfield}
use Rattle.sp_names.specs.declared.sort.DeclSort.TheVariants as sort_is
use Rattle.sp_names.specs.Declarations.{name_of, members, type_tree_of, all_of}
use Rattle.sp_names.specs.Names.{declaration_of, first_named}
use Rattle.sp_names.specs.Types.{bitfield_at}

-- a member of a unit
pub record UnitMember : Type 0 where
  pub name : List ℕ
  pub kind : MemberKind

abbrev pub member_as : MemberKind → Tree → List UnitMember
member_as kind name = record { name = name_of name; kind = kind } ∷ []

-- a field, if it has a name
abbrev pub field_member : Tree → List UnitMember
field_member (node form_is.Field span (more (node (form_is.Name x) s us) ts)) = member_as kind_is.Field (node (form_is.Name x) s us)
field_member _ = []

-- What is named in items and parts of a unit, in the order of the text: variables, sinks and fields, also those in the arms of
-- switches.
abbrev mutual
  pub named_in : Tree → List UnitMember
  named_in (node (form_is.Item item_is.Variable) span (more name ts)) = member_as kind_is.Variable name
  named_in (node (form_is.Item item_is.Sink) span (more name ts)) = member_as kind_is.Sink name
  named_in (node (form_is.Item item_is.Part) span (more part ts)) = named_in part
  named_in (node (form_is.Part part_is.Field) span (more field ts)) = field_member field
  named_in (node (form_is.Part part_is.Switch) span (more subject (more (row arms) ts))) = named_among arms
  named_in (node form_is.Arm span (more guard (more body ts))) = named_in body
  named_in (node (form_is.Body body_is.One) span ts) = named_among ts
  named_in (node (form_is.Body body_is.Many) span ts) = named_among ts
  named_in _ = []

  pub named_among : Trees → List UnitMember
  named_among none = []
  named_among (more t ts) = named_in t ++ named_among ts

abbrev pub is_called : List ℕ → UnitMember → Bool
is_called x m = bytes_eq x m.name

-- the first of each name: those behind it that have its name are no further members
abbrev pub firsts : List UnitMember → List UnitMember
firsts [] = []
firsts (m ∷ ms) = m ∷ filter (λ n. not (is_called n.name m)) (firsts ms)

abbrev pub unit_items : Tree → Trees
unit_items (node form_is.Unit span (more parameters (more (row items) ts))) = items
unit_items _ = none

-- The members of a unit. A member's number is its place in this row, from 0; fields of one name are one member.
abbrev pub members_of : Tree → List UnitMember
members_of unit = firsts (named_among (unit_items unit))

-- the unit that a type is
abbrev pub unit_in : Tree → Tree
unit_in (node (form_is.Type type_is.Unit) span (more unit ts)) = unit
unit_in _ = absent

abbrev pub declared_unit : Option Declaration → Tree
declared_unit None = absent
declared_unit (Some d) = unit_in (type_tree_of d.tree)

-- the unit of a number, and its members
abbrev pub unit_declaration : List Tree → ℕ → Option Declaration
unit_declaration list n = declaration_of list (slice_get (all_of sort_is.Unit list) n)

abbrev pub unit_members : List Tree → ℕ → List UnitMember
unit_members list n = members_of (declared_unit (unit_declaration list n))

-- Where the members of a unit begin in the row of the members of all units: how many stand before them.
abbrev pub first_member : List Tree → ℕ → ℕ
first_member list zero = 0
first_member list (suc n) = first_member list n + length (unit_members list n)

-- the number of the member of a name, where the first of the row has the number k
abbrev pub numbered : List ℕ → ℕ → List UnitMember → Option ℕ
numbered x k [] = None
numbered x k (m ∷ ms) = if is_called x m then Some k else numbered x (suc k) ms

abbrev pub kinds_of : List UnitMember → List MemberKind
kinds_of [] = []
kinds_of (m ∷ ms) = m.kind ∷ kinds_of ms

-- the name of a range of bits
abbrev pub range_name : Tree → Option (List ℕ)
range_name (node form_is.Bits span (more name ts)) = Some (name_of name)
range_name _ = None

-- the width of a bitfield as it is written, and its ranges
abbrev pub written_number : Tree → ℕ
written_number (node (form_is.Number n) span ts) = n
written_number _ = 0

abbrev pub bitfield_width : Tree → ℕ
bitfield_width (node (form_is.Type type_is.Bitfield) span (more width ts)) = written_number width
bitfield_width _ = 0

abbrev pub bitfield_ranges : Tree → List Tree
bitfield_ranges (node (form_is.Type type_is.Bitfield) span (more width (more ranges ts))) = members ranges
bitfield_ranges _ = []

abbrev pub tree_of : Option Bitfield → Tree
tree_of None = absent
tree_of (Some b) = b.tree

-- the bitfield of a number, and the number of its first range of a name
abbrev pub bitfield_tree : List Tree → ℕ → Tree
bitfield_tree list n = tree_of (bitfield_at list n)

abbrev pub range_number : List Tree → ℕ → List ℕ → Option ℕ
range_number list n x = first_named range_name x 0 (bitfield_ranges (bitfield_tree list n))
