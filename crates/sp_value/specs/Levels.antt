-- The value that a level and what is below it stand for.
use Rattle.sp_value.specs.Val.{Val, void, bool, uint, int, bytes, str, enum, bits, tuple, vector, set, map, unit, place, vals_of, entries_of}
use Rattle.sp_value.specs.Pieces.{all_in, NoneEmpty}
use Rattle.sp_value.specs.declared.level.Level.{Level}
use Rattle.sp_value.specs.declared.level.Level.TheVariants.{Void, Bool, Uint, Int, Bytes, Str, Enum, Bits, Tuple, Vector, Set, Map, Unit as UnitLevel, Place}

abbrev pub value_of : Level → Val
value_of Void = void
value_of (Bool b) = bool b
value_of (Uint w n) = uint w n
value_of (Int w n) = int w n
value_of (Bytes b) = bytes b.now
value_of (Str s) = str s.now
value_of (Enum k n) = enum k n
value_of (Bits k n) = bits k n.now
value_of (Tuple vs) = tuple (vals_of vs.now)
value_of (Vector vs) = vector (vals_of vs.now)
value_of (Set ps) = set (vals_of (all_in ps.now))
value_of (Map ps) = map (entries_of (all_in ps.now))
value_of (UnitLevel n) = unit n
value_of (Place n) = place n

-- no piece of a set or a map that is lent is empty
abbrev pub HasNoEmptyPiece : Level → Type 0
HasNoEmptyPiece (Set ps) = NoneEmpty ps.now
HasNoEmptyPiece (Map ps) = NoneEmpty ps.now
HasNoEmptyPiece _ = Unit {0}
