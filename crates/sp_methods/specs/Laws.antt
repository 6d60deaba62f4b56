-- What the definitions of parts and of texts come to, in the words of a search and of the Unicode Standard.
use Rattle.std.specs.Prelude.{◌≡◌, ℕ, ◌+◌, ◌<◌, List, [], ◌∷◌, ◌++◌, length, take, drop, None, Some}
use Rattle.std.specs.Char.{IsScalar, encode_utf8}
use Rattle.std.specs.Str.{StartsWithNoChar}
use Rattle.memchr.specs.Find.{FindsNeedle}
use Rattle.sp_methods.specs.Separated.{before, behind, parts}
use Rattle.sp_methods.specs.Decoding.{utf8_character, characters}

-- where the separator stands first at place k, the parts are what is before it, and the parts of what is behind it
abbrev pub PartsAtTheFirst : Type 0
PartsAtTheFirst = (d x : List ℕ) (k : ℕ) → 0 < length d → FindsNeedle x d 0 (Some k) →
    (before d x ≡ take k x) × (behind d x ≡ drop (k + length d) x) × (parts d 0 x ≡ take k x ∷ parts d 0 (drop (k + length d) x))

-- where it stands nowhere, all is one part
abbrev pub PartsWithoutAny : Type 0
PartsWithoutAny = (d x : List ℕ) → 0 < length d → FindsNeedle x d 0 None → (before d x ≡ x) × (behind d x ≡ []) × (parts d 0 x ≡ x ∷ [])

-- a character of the Unicode Standard is taken whole
abbrev pub TakesCharacters : Type 0
TakesCharacters = (fill rest : List ℕ) (c : ℕ) → IsScalar c →
    characters utf8_character fill 0 (encode_utf8 c ++ rest) ≡ encode_utf8 c ++ characters utf8_character fill 0 rest

-- a byte with which none begins is filled, alone
abbrev pub FillsOneByte : Type 0
FillsOneByte = (fill bs : List ℕ) (b : ℕ) → StartsWithNoChar (b ∷ bs) →
    characters utf8_character fill 0 (b ∷ bs) ≡ fill ++ characters utf8_character fill 0 bs
