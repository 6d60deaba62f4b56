-- The made input: record i is a byte that says how many bytes follow, (7 i + 3) mod 64, and these bytes, i mod 256, (i + 1) mod 256
-- and so on.
use Rattle.std.specs.Prelude.{ℕ, zero, suc, ◌+◌, ◌*◌, ◌%◌, List, [], ◌∷◌, ◌++◌}

-- how many bytes follow the first one of record i
abbrev pub size_of : ℕ → ℕ
size_of i = (7 * i + 3) % 64

-- so many bytes, each one more than the one before
unfoldable pub rising : ℕ → ℕ → List ℕ
rising value zero = []
rising value (suc count) = value % 256 ∷ rising (value + 1) count

abbrev pub record_of : ℕ → List ℕ
record_of i = size_of i ∷ rising i (size_of i)

-- so many records, from record i on
unfoldable pub records : ℕ → ℕ → List ℕ
records i zero = []
records i (suc count) = record_of i ++ records (i + 1) count

-- the input of n records
abbrev pub input : ℕ → List ℕ
input n = records 0 n
