-- The value that one level of a tree stands for.
use Rattle.sp_events.specs.Tree.{TreeData, void, bool, uint, int, bytes, str, label, unlisted, bits, tuple, vector, set, map, unit, place, trees_of, pairs_of, fields_of}
use Rattle.sp_events.specs.declared.tree.Node.{Node}
use Rattle.sp_events.specs.declared.tree.Node.TheVariants.{Void, Bool, Uint, Int, Bytes, Str, Label, Unlisted, Bits, Tuple, Vector, Set, Map, Unit as UnitNode, Place}

abbrev pub tree_of : Node → TreeData
tree_of Void = void
tree_of (Bool b) = bool b
tree_of (Uint n) = uint n
tree_of (Int n) = int n
tree_of (Bytes b) = bytes b
tree_of (Str s) = str s
tree_of (Label s) = label s
tree_of (Unlisted n) = unlisted n
tree_of (Bits r) = bits r.items
tree_of (Tuple v) = tuple (trees_of v.items)
tree_of (Vector v) = vector (trees_of v.items)
tree_of (Set v) = set (trees_of v.items)
tree_of (Map v) = map (pairs_of v.items)
tree_of (UnitNode v) = unit (fields_of v.items)
tree_of (Place n) = place n
