-- Words and numbers as they are written, and what it is to be the longest at a place.
use Rattle.std.specs.Prelude.{ℕ, ◌≡◌, ◌+◌, ◌≤◌, List, Bool, true, ◌&&◌, ◌||◌, nat_lt, length, take, drop, slice_index}
use Rattle.std.specs.Char.{is_ascii_digit, is_ascii_hexdigit}
use Rattle.std.specs.List.{list_all}
use Rattle.sp_lex.specs.Bytes.{is_letter, is_word}
use Rattle.sp_lex.specs.Literals.{is_hex}
use Rattle.sp_lex.specs.Readings.{bytes_of}
use Rattle.sp_lex.specs.Spellings.{spelling}
use Rattle.sp_lex.specs.declared.kinds.TokenKind.{TokenKind}
use Rattle.sp_lex.specs.declared.kinds.TokenKind.TheVariants as token
use Rattle.sp_lex.specs.declared.tokens.Token.{Token}

-- a word: a letter or _, and then letters, digits and _
abbrev pub is_word_text : List ℕ → Bool
is_word_text bytes = is_letter (slice_index bytes 0) && list_all is_word bytes

-- a number: decimal digits, or 0x and hexadecimal digits
abbrev pub is_number_text : List ℕ → Bool
is_number_text bytes = nat_lt 0 (length bytes) && list_all is_ascii_digit bytes || is_hex bytes && list_all is_ascii_hexdigit (drop 2 bytes)

-- the kinds whose tokens are words: names, and all whose text begins with a letter
abbrev pub is_word_kind : TokenKind → Bool
is_word_kind token.Id = true
is_word_kind kind = is_letter (slice_index (spelling kind) 0)

-- The token's bytes pass the test, and no more bytes from its place on do.
pub record IsLongestText (test : List ℕ → Bool) (text : List ℕ) (token : Token) : Type 0 where
  pub is : test (bytes_of text token) ≡ true
  pub longest : (n : ℕ) → token.span.from + n ≤ length text → test (take n (drop token.span.from text)) ≡ true → token.span.from + n ≤ token.span.to
