use Rattle.std.proofs.Common.{◌≡◌, length, take}
use Rattle.sp_names.specs.Types.{bitfields}
use Rattle.sp_names.specs.Tables.{Each, IsPlaces}
use Rattle.sp_names.proofs.bitfields.all_bitfields.Given as goal

abbrev pub invariant-loop-i : goal.invariant-loop-i
invariant-loop-i l = (l.list.items ≡ bitfields (take l.i l.modules)) × (length l.places.items ≡ l.i) × Each (IsPlaces l.modules) l.places.items
