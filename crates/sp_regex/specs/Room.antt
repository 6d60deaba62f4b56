-- Whether ranges leave a byte.
use Rattle.std.specs.Prelude.{ℕ, zero, suc, ◌&&◌, ◌||◌, Bool, false, not, List}
use Rattle.sp_regex.specs.declared.bytes.ByteRange.{ByteRange}
use Rattle.sp_regex.specs.Bytes.{is_within, is_covered}

-- whether a test holds of some number below n
unfoldable pub some_below : ℕ → (ℕ → Bool) → Bool
some_below zero p = false
some_below (suc n) p = p n || some_below n p

-- whether a byte is in none of the ranges, and not in this one
abbrev pub is_left : List ByteRange → ByteRange → ℕ → Bool
is_left rs r b = not (is_covered rs b) && not (is_within b r)

-- whether some byte is in none of the ranges, and not in this one
abbrev pub leaves_byte : List ByteRange → ByteRange → Bool
leaves_byte rs r = some_below 256 (is_left rs r)
