-- What every value has: an integer is one of its width; the members of a set and the keys of a map ascend, and none comes twice.
use Rattle.std.specs.Prelude.{◌≡◌, ◌^◌, ◌<◌, length, IsTrue}
use Rattle.sp_numbers.specs.Numbers.{width_bits, fits_signed}
use Rattle.sp_value.specs.Ascending.{own_key, entry_key}
use Rattle.sp_value.specs.Pieces.{all_in, ArePieces}
use Rattle.sp_value.specs.declared.value.Node.{Node}
use Rattle.sp_value.specs.declared.value.Node.TheVariants.{Uint, Int, Set, Map}

abbrev pub IsValid : Node → Type 0
IsValid (Uint w n) = n < 2 ^ width_bits w
IsValid (Int w n) = IsTrue (fits_signed w n)
IsValid (Set n keys) = ArePieces own_key keys.value.items × (n ≡ length (all_in keys.value.items))
IsValid (Map n entries) = ArePieces entry_key entries.value.items × (n ≡ length (all_in entries.value.items))
IsValid _ = Unit {0}
