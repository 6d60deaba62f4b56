-- The value that one level stands for.
use Rattle.std.specs.Prelude.{string_bytes}
use Rattle.sp_value.specs.Val.{Val, void, bool, uint, int, bytes, str, enum, bits, tuple, vector, set, map, unit, place, vals_of, entries_of}
use Rattle.sp_value.specs.Pieces.{all_in}
use Rattle.sp_value.specs.declared.value.Node.{Node}
use Rattle.sp_value.specs.declared.value.Node.TheVariants.{Void, Bool, Uint, Int, Bytes, Str, Enum, Bits, Tuple, Vector, Set, Map, Unit as UnitNode, Place}

abbrev pub val_of : Node → Val
val_of Void = void
val_of (Bool b) = bool b
val_of (Uint w n) = uint w n
val_of (Int w n) = int w n
val_of (Bytes b) = bytes b.value.items
val_of (Str s) = str (string_bytes s.value)
val_of (Enum k n) = enum k n
val_of (Bits k n) = bits k n.value.items
val_of (Tuple v) = tuple (vals_of v.value.items)
val_of (Vector v) = vector (vals_of v.value.items)
val_of (Set n v) = set (vals_of (all_in v.value.items))
val_of (Map n v) = map (entries_of (all_in v.value.items))
val_of (UnitNode n) = unit n
val_of (Place n) = place n
