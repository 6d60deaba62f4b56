-- The value that was taken apart into one level and what is below it.
use Rattle.std.specs.Prelude.{string_bytes}
use Rattle.sp_value.specs.Val.{Val, void, bool, uint, int, bytes, str, enum, bits, tuple, vector, set, map, unit, place, vals_of, entries_of}
use Rattle.sp_value.specs.declared.parts.Parts.{Parts}
use Rattle.sp_value.specs.declared.parts.Parts.TheVariants.{Void, Bool, Uint, Int, Bytes, Str, Enum, Bits, Tuple, Vector, Set, Map, Unit as UnitPart, Place}

abbrev pub value_of_parts : Parts → Val
value_of_parts Void = void
value_of_parts (Bool b) = bool b
value_of_parts (Uint w n) = uint w n
value_of_parts (Int w n) = int w n
value_of_parts (Bytes b) = bytes b.items
value_of_parts (Str s) = str (string_bytes s)
value_of_parts (Enum k n) = enum k n
value_of_parts (Bits k n) = bits k n.items
value_of_parts (Tuple vs) = tuple (vals_of vs.items)
value_of_parts (Vector vs) = vector (vals_of vs.items)
value_of_parts (Set vs) = set (vals_of vs.items)
value_of_parts (Map es) = map (entries_of es.items)
value_of_parts (UnitPart n) = unit n
value_of_parts (Place n) = place n
