-- What the tokens that carry something are worth.
use Rattle.std.specs.Prelude.{ℕ, ◌≡◌, ◌+◌, ◌-◌, ◌*◌, ◌==◌, ◌⊎◌, zero, suc, List, [], ◌∷◌, drop, slice_index, slice_index_or, if◌then◌else◌}
use Rattle.std.specs.Char.{is_ascii_hexdigit}
use Rattle.sp_lex.specs.Faults.{between}
use Rattle.sp_lex.specs.Lexed.{Lexed}
use Rattle.sp_lex.specs.Literals.{digit_value}
use Rattle.sp_lex.specs.Readings.{token_at, bytes_of}
use Rattle.sp_lex.specs.declared.kinds.Absent.TheVariants as absent
use Rattle.sp_lex.specs.declared.kinds.TokenKind.{TokenKind}
use Rattle.sp_lex.specs.declared.kinds.TokenKind.TheVariants as token
use Rattle.sp_lex.specs.declared.tokens.Token.{Token}

-- the token with this number, counted from 0; behind the last one a name without bytes
abbrev pub numbered : List Token → ℕ → Token
numbered tokens at = slice_index_or tokens at (token_at token.Id 0 0)

-- its kind, and its bytes
abbrev pub kind_at : Lexed → ℕ → TokenKind
kind_at lexed at = (numbered lexed.list at).kind

abbrev pub bytes_at : Lexed → ℕ → List ℕ
bytes_at lexed at = bytes_of lexed.text (numbered lexed.list at)

-- what can be a name: an ID, or the word skip
abbrev pub IsName : TokenKind → Type 0
IsName kind = (kind ≡ token.Id) ⊎ (kind ≡ token.Absent absent.Skip)

-- what a hexadecimal digit is worth, and any other byte 0
abbrev pub hex_digit : ℕ → ℕ
hex_digit byte = if is_ascii_hexdigit byte then digit_value byte else 0

-- The byte that an escape stands for, by what is behind its \: n is a line feed, r a carriage return, t a tab,
-- xHH the byte with these two digits, and any other byte stands for itself.
abbrev pub escaped : List ℕ → ℕ
escaped text =
    if slice_index text 0 == 110 then 10
    else (if slice_index text 0 == 114 then 13
    else (if slice_index text 0 == 116 then 9
    else (if slice_index text 0 == 120 then 16 * hex_digit (slice_index text 1) + hex_digit (slice_index text 2)
    else slice_index text 0)))

-- the byte that the first character stands for: an escape, or a byte for itself
unfoldable pub char_value : List ℕ → ℕ
char_value text = if slice_index text 0 == 92 then escaped (drop 1 text) else slice_index text 0

-- how many bytes the first character takes: \xHH four, another escape two, any other one
unfoldable pub char_size : List ℕ → ℕ
char_size text = if slice_index text 0 == 92 then (if slice_index text 1 == 120 then 4 else 2) else 1

-- the bytes that characters stand for, where `left` bytes of the text still belong to the character before it
abbrev pub decoded_behind : ℕ → List ℕ → List ℕ
decoded_behind left [] = []
decoded_behind (suc left) (byte ∷ text) = decoded_behind left text
decoded_behind zero (byte ∷ text) = char_value (byte ∷ text) ∷ decoded_behind (char_size (byte ∷ text) - 1) text

-- the bytes that characters stand for, one for each
abbrev pub decoded : List ℕ → List ℕ
decoded text = decoded_behind 0 text

-- the value of a STRING "..", of a BYTES b"..", and the text of a regular expression /../
abbrev pub string_value : List ℕ → List ℕ
string_value bytes = decoded (between bytes)

abbrev pub bytes_value : List ℕ → List ℕ
bytes_value bytes = decoded (between (drop 1 bytes))

abbrev pub regex_text : List ℕ → List ℕ
regex_text bytes = between bytes
