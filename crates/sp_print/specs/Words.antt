-- The words of a canonical text: its tokens as they are written there.
use Rattle.std.specs.Prelude.{ℕ, ◌+◌, ◌/◌, ◌%◌, List, [], ◌∷◌, ◌++◌, Bool, if◌then◌else◌, ◌==◌, ◌&&◌, not, codes, decimal, flat_map, nat_lt, chars, encode_utf8}
use Rattle.sp_lex.specs.Spellings.{spelling}
use Rattle.sp_lex.specs.declared.kinds.TokenKind.{TokenKind}
use Rattle.sp_lex.specs.declared.kinds.TokenKind.TheVariants as token

-- A word: a token with one text, a name, a number, a text, bytes, or a regular expression by what stands between its
-- slashes.
pub data Word : Type 0 where
  fixed : TokenKind → Word
  name text bytes regex : List ℕ → Word
  number : ℕ → Word

-- a hexadecimal digit, in lower case
abbrev pub hex_digit : ℕ → ℕ
hex_digit n = if nat_lt n 10 then 48 + n else 87 + n

-- whether a character is one of ASCII that is printed and stands for itself in a literal
abbrev pub is_plain : ℕ → Bool
is_plain c = nat_lt 31 c && nat_lt c 127 && not (c == 34) && not (c == 92)

-- a byte as an escape: \" \\ \n \r \t, and any other one by two hexadecimal digits
abbrev pub escape : ℕ → List ℕ
escape c =
    if c == 34 then codes "\\\""
    else (if c == 92 then codes "\\\\"
    else (if c == 10 then codes "\\n"
    else (if c == 13 then codes "\\r"
    else (if c == 9 then codes "\\t"
    else 92 ∷ 120 ∷ hex_digit (c / 16) ∷ hex_digit (c % 16) ∷ []))))

-- a byte in a literal of bytes
abbrev pub shown_byte : ℕ → List ℕ
shown_byte c = if is_plain c then c ∷ [] else escape c

-- a character in a literal of text; one past ASCII stands for itself
abbrev pub shown_char : ℕ → List ℕ
shown_char c = if nat_lt c 128 then shown_byte c else encode_utf8 c

-- how a word is written
abbrev pub written : Word → List ℕ
written (fixed kind) = spelling kind
written (name x) = x
written (number n) = decimal n
written (text x) = 34 ∷ flat_map shown_char (chars x) ++ 34 ∷ []
written (bytes x) = 98 ∷ 34 ∷ flat_map shown_byte x ++ 34 ∷ []
written (regex x) = 47 ∷ x ++ 47 ∷ []

-- the kind of token that it is
abbrev pub kind_of : Word → TokenKind
kind_of (fixed kind) = kind
kind_of (name x) = token.Id
kind_of (number n) = token.Number
kind_of (text x) = token.String
kind_of (bytes x) = token.Bytes
kind_of (regex x) = token.Regex
