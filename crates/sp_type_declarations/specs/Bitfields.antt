-- The bitfields of the typed list: each with its width and its ranges as they are written.
use Rattle.std.specs.Prelude.{List, map}
use Rattle.sp_ast.specs.Trees.{Tree, absent, node, more, span_of}
use Rattle.sp_ast.specs.declared.forms.Form.TheVariants as form_is
use Rattle.sp_ast.specs.declared.forms.TypeForm.TheVariants as type_is
use Rattle.sp_typed_units.specs.declared.declarations.BitRange.{BitRange}
use Rattle.sp_typed_units.specs.declared.declarations.Bitfield.{Bitfield}
use Rattle.sp_names.specs.declared.rows.Bitfield.{Bitfield as Written}
use Rattle.sp_names.specs.Declarations.{name_of}
use Rattle.sp_names.specs.Types.{bitfields}
use Rattle.sp_type_modules.specs.Members.{written_number, bitfield_width, bitfield_ranges}

-- the last number of a range of bits: the first one, where one is written
abbrev pub last_number : Tree → Tree → Tree
last_number first absent = first
last_number first last = last

-- the name of a range, and its first and its last number
abbrev pub name_tree : Tree → Tree
name_tree (node form_is.Bits span (more name ts)) = name
name_tree _ = absent

abbrev pub first_tree : Tree → Tree
first_tree (node form_is.Bits span (more name (more first ts))) = first
first_tree _ = absent

abbrev pub last_tree : Tree → Tree
last_tree (node form_is.Bits span (more name (more first (more last ts)))) = last_number first last
last_tree _ = absent

abbrev pub bit_range : Tree → BitRange
bit_range t = record {
  name = name_of (name_tree t);
  span = span_of (name_tree t);
  from = written_number (first_tree t);
  from_span = span_of (first_tree t);
  to = written_number (last_tree t);
  to_span = span_of (last_tree t);
}

-- the width of a bitfield
abbrev pub width_tree : Tree → Tree
width_tree (node (form_is.Type type_is.Bitfield) span (more width ts)) = width
width_tree _ = absent

abbrev pub typed_bitfield : Written → Bitfield
typed_bitfield b = record {
  «module» = b.«module»;
  width = bitfield_width b.tree;
  width_span = span_of (width_tree b.tree);
  ranges = map bit_range (bitfield_ranges b.tree);
}

-- All bitfields, by their numbers.
abbrev pub typed_bitfields : List Tree → List Bitfield
typed_bitfields list = map typed_bitfield (bitfields list)
