-- The integers that bytes stand for.
use Rattle.std.specs.Prelude.{◌≡◌, ℕ, ◌+◌, ◌*◌, ◌^◌, ℤ, pos, ◌-ℤ◌, List, [], ◌∷◌, length, Bool, true, false, ◌⊎◌, ◌==◌, nat_lt, if◌then◌else◌}
use Rattle.sp_numbers.specs.declared.width.Width.{Width}
use Rattle.sp_numbers.specs.declared.width.Width.TheVariants.{W8, W16, W32, W64}
use Rattle.sp_value.specs.Val.{Val, uint, int}

-- integers have 1, 2, 4 or 8 bytes
abbrev pub IsWidth : ℕ → Type 0
IsWidth n = (n ≡ 1) ⊎ ((n ≡ 2) ⊎ ((n ≡ 4) ⊎ (n ≡ 8)))

-- the width of an integer of so many bytes
abbrev pub width_of_bytes : ℕ → Width
width_of_bytes n = if n == 1 then W8 else (if n == 2 then W16 else (if n == 4 then W32 else W64))

-- in network order the first byte counts most
abbrev pub big_endian : List ℕ → ℕ
big_endian [] = 0
big_endian (b ∷ bytes) = b * 256 ^ length bytes + big_endian bytes

-- in little-endian order the first byte counts least
abbrev pub little_endian : List ℕ → ℕ
little_endian [] = 0
little_endian (b ∷ bytes) = b + 256 * little_endian bytes

abbrev pub unsigned_of : Bool → List ℕ → ℕ
unsigned_of true bytes = little_endian bytes
unsigned_of false bytes = big_endian bytes

-- two's complement: of the numbers below full, the upper half stands for those from -full / 2 to -1
abbrev pub signed_of : ℕ → ℕ → ℤ
signed_of full n = if nat_lt (2 * n) full then pos n else pos n -ℤ pos full

-- the value of an integer's bytes, by their order and whether it has a sign
abbrev pub integer_of : Bool → Bool → List ℕ → Val
integer_of little false bytes = uint (width_of_bytes (length bytes)) (unsigned_of little bytes)
integer_of little true bytes = int (width_of_bytes (length bytes)) (signed_of (256 ^ length bytes) (unsigned_of little bytes))
