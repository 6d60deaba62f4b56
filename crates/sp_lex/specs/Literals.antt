-- Texts, bytes and regular expressions between their delimiters, and numbers.
use Rattle.std.specs.Prelude.{ℕ, ◌+◌, ◌-◌, ◌*◌, zero, suc, List, [], ◌∷◌, Bool, true, false, ◌==◌, ◌&&◌, ◌||◌, nat_lt, if◌then◌else◌, length, drop, fold, slice_index, Option, Some, None, option_map}
use Rattle.std.specs.List.{prefix_len}
use Rattle.std.specs.Char.{is_ascii_digit, is_ascii_hexdigit}
use Rattle.sp_lex.specs.Bytes.{is_in_line}
use Rattle.sp_lex.specs.declared.literals.Form.{Form}
use Rattle.sp_lex.specs.declared.literals.Form.TheVariants as form

-- the byte that ends the literal: a quote, or a slash
abbrev pub closing : Form → ℕ
closing form.String = 34
closing form.Bytes = 34
closing form.Regex = 47

-- how many bytes are before the first character: " or / alone, or b"
abbrev pub opening : Form → ℕ
opening form.String = 1
opening form.Bytes = 2
opening form.Regex = 1

-- \n \r \t \\ and \"
abbrev pub is_short_escape : ℕ → Bool
is_short_escape byte = byte == 110 || byte == 114 || byte == 116 || byte == 92 || byte == 34

-- the digits of \xHH: two hexadecimal ones, in a STRING at most 7f
abbrev pub is_hex_escape : Form → ℕ → ℕ → Bool
is_hex_escape form.String high low = nat_lt high 56 && is_ascii_digit high && is_ascii_hexdigit low
is_hex_escape _ high low = is_ascii_hexdigit high && is_ascii_hexdigit low

-- a byte that stands for itself: in the line, and ASCII in a BYTES
abbrev pub is_plain : Form → ℕ → Bool
is_plain form.Bytes byte = nat_lt byte 128 && is_in_line byte
is_plain _ byte = is_in_line byte

-- How many bytes the escape takes that stands behind a \, or None where none does. A regular expression may
-- escape any byte of the line; which ones it must, its own grammar says. No byte at the end counts as 0.
abbrev pub escape_len : Form → List ℕ → Option ℕ
escape_len form.Regex text = if nat_lt 0 (length text) && is_in_line (slice_index text 0) then Some 1 else None
escape_len form text =
    if is_short_escape (slice_index text 0) then Some 1
    else (if slice_index text 0 == 120 && is_hex_escape form (slice_index text 1) (slice_index text 2) then Some 3
    else None)

-- how many bytes one character of the literal takes where the text begins, or None where none stands there
unfoldable pub char_len : Form → List ℕ → Option ℕ
char_len form text =
    if slice_index text 0 == 92 then option_map (λ n. n + 1) (escape_len form (drop 1 text))
    else (if is_plain form (slice_index text 0) then Some 1 else None)

-- the place behind a closing byte at `at`, or else behind what follows a character there
abbrev pub closed : Bool → ℕ → Option ℕ → (ℕ → Option ℕ) → Option ℕ
closed true at _ _ = Some (at + 1)
closed false _ None _ = None
closed false _ (Some n) go = go n

-- The place behind the closing byte of a literal: `at` is the place of the text, and `left` bytes of the text
-- still belong to the character before it. None where no character stands, or the text ends before the literal.
abbrev pub literal_end : Form → ℕ → ℕ → List ℕ → Option ℕ
literal_end form at left [] = None
literal_end form at (suc left) (byte ∷ text) = literal_end form (at + 1) left text
literal_end form at zero (byte ∷ text) =
    closed (byte == closing form) at (char_len form (byte ∷ text)) (λ n. literal_end form (at + 1) (n - 1) text)

-- how many bytes a literal takes where the text begins with its opening bytes, or None where none stands there
unfoldable pub literal_len : Form → List ℕ → Option ℕ
literal_len form text = literal_end form (opening form) 0 (drop (opening form) text)

-- 0x and hexadecimal digits
abbrev pub is_hex : List ℕ → Bool
is_hex text = slice_index text 0 == 48 && slice_index text 1 == 120 && is_ascii_hexdigit (slice_index text 2)

-- how many bytes a number takes where the text begins with a digit
unfoldable pub number_len : List ℕ → ℕ
number_len text = if is_hex text then 2 + prefix_len is_ascii_hexdigit (drop 2 text) else prefix_len is_ascii_digit text

-- what a digit is worth; letters go on behind 9
abbrev pub digit_value : ℕ → ℕ
digit_value byte = if nat_lt byte 58 then byte - 48 else (if nat_lt byte 97 then byte - 55 else byte - 87)

-- the number that digits of a base stand for
abbrev pub digits_value : ℕ → List ℕ → ℕ
digits_value base digits = fold (λ value digit. value * base + digit_value digit) 0 digits

-- the number that is written so
unfoldable pub number_value : List ℕ → ℕ
number_value text = if is_hex text then digits_value 16 (drop 2 text) else digits_value 10 text
