-- A group of Base64: four symbols for one to three bytes (RFC 4648, section 4).
use Rattle.std.specs.Prelude.{◌≡◌, ℕ, ◌+◌, ◌*◌, ◌/◌, ◌%◌, ◌<◌, List, [], ◌∷◌, codes, slice_index}

-- the alphabet of RFC 4648, table 1
abbrev pub alphabet : List ℕ
alphabet = codes "ABCDEFGHIJKLMNOPQRSTUVWXYZabcdefghijklmnopqrstuvwxyz0123456789+/"

-- the character for no symbol: =
abbrev pub padding : ℕ
padding = 61

-- the symbol of six bits
abbrev pub symbol : ℕ → ℕ
symbol bits = slice_index alphabet bits

-- the symbols of one to three bytes: six bits each, with zero bits behind the last byte, and padding up to four
abbrev pub symbols : List ℕ → List ℕ
symbols (a ∷ []) = symbol (a / 4) ∷ symbol (a % 4 * 16) ∷ padding ∷ padding ∷ []
symbols (a ∷ b ∷ []) = symbol (a / 4) ∷ symbol (a % 4 * 16 + b / 16) ∷ symbol (b % 16 * 4) ∷ padding ∷ []
symbols (a ∷ b ∷ c ∷ []) = symbol (a / 4) ∷ symbol (a % 4 * 16 + b / 16) ∷ symbol (b % 16 * 4 + c / 64) ∷ symbol (c % 64) ∷ []
symbols _ = []

-- the four symbols stand for these bytes
pub record IsGroup (four bytes : List ℕ) : Type 0 where
  pub symbols_are : four ≡ symbols bytes
  pub bytes_are : (i : ℕ) → slice_index bytes i < 256
