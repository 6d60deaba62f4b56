-- Tokens with a fixed text, where a text begins.
use Rattle.std.specs.Prelude.{ℕ, List, [], ◌∷◌, Bool, true, false, ◌&&◌, not, nat_eq, nat_lt, if◌then◌else◌, length, slice_index, Option, Some, None, unwrap_or}
use Rattle.std.specs.List.{starts_with, find}
use Rattle.std.specs.Str.{bytes_eq}
use Rattle.sp_lex.specs.Bytes.{is_word}
use Rattle.sp_lex.specs.Spellings.{spelling, signs, reserved_words}
use Rattle.sp_lex.specs.declared.kinds.Absent.TheVariants as absent
use Rattle.sp_lex.specs.declared.kinds.TokenKind.{TokenKind}
use Rattle.sp_lex.specs.declared.kinds.TokenKind.TheVariants as token

-- the name of an attribute is not followed by a letter, a digit or _
abbrev pub is_whole_name : TokenKind → Bool
is_whole_name (token.Attribute _) = true
is_whole_name token.Priority = true
is_whole_name (token.Absent absent.ChunkedAttribute) = true
is_whole_name _ = false

-- whether a token of the kind stands where the text begins
abbrev pub stands : TokenKind → List ℕ → Bool
stands kind text = starts_with nat_eq text (spelling kind) && not (is_whole_name kind && is_word (slice_index text (length (spelling kind))))

-- the one with more bytes of a token that was found and one that may stand there
abbrev pub longer : List ℕ → Option TokenKind → TokenKind → Option TokenKind
longer text None kind = if stands kind text then Some kind else None
longer text (Some found) kind = if stands kind text && nat_lt (length (spelling found)) (length (spelling kind)) then Some kind else Some found

-- the longest token that was found or is one of the kinds
abbrev pub longest_of : List ℕ → Option TokenKind → List TokenKind → Option TokenKind
longest_of text found [] = found
longest_of text found (kind ∷ kinds) = longest_of text (longer text found kind) kinds

-- the longest token of punctuation with which the text begins
unfoldable pub longest_sign : List ℕ → Option TokenKind
longest_sign text = longest_of text None signs

-- whether the word is the text of the kind
abbrev pub is_spelled : List ℕ → TokenKind → Bool
is_spelled word kind = bytes_eq word (spelling kind)

-- a word is a reserved one or a name
unfoldable pub word_kind : List ℕ → TokenKind
word_kind word = unwrap_or (find (is_spelled word) reserved_words) token.Id

-- the first byte of each kind's text
abbrev pub first_bytes : List TokenKind → List ℕ
first_bytes [] = []
first_bytes (kind ∷ kinds) = slice_index (spelling kind) 0 ∷ first_bytes kinds

-- whether each kind has a text
abbrev pub all_spelled : List TokenKind → Bool
all_spelled [] = true
all_spelled (kind ∷ kinds) = nat_lt 0 (length (spelling kind)) && all_spelled kinds
