-- What can be wrong with a text as far as its tokens go, and what is reported.
use Rattle.std.specs.Prelude.{ℕ, ◌≡◌, ◌+◌, ◌-◌, ◌^◌, ◌<◌, ◌≤◌, ◌⊎◌, ◌==◌, List, length, take, drop, min}
use Rattle.std.specs.List.{position_or_len}
use Rattle.std.specs.Str.Lossy.{utf8_valid_len}
use Rattle.sp_base.specs.Kinds.{module_kind_number}
use Rattle.sp_base.specs.declared.kinds.MKind.{MKind}
use Rattle.sp_base.specs.declared.kinds.MKind.TheVariants as module_kind
use Rattle.sp_base.specs.declared.places.Span.{Span}
use Rattle.sp_lex.specs.Literals.{number_value}
use Rattle.sp_lex.specs.Nesting.{role_of, level, after, outermost}
use Rattle.sp_lex.specs.Readings.{Reading, Ends, Stops, Reads, reading, bytes_of}
use Rattle.sp_lex.specs.declared.kinds.TokenKind.{TokenKind}
use Rattle.sp_lex.specs.declared.kinds.TokenKind.TheVariants as token_kind
use Rattle.sp_lex.specs.declared.nesting.Nesting.{Nesting}
use Rattle.sp_lex.specs.declared.tokens.ReadFault.{ReadFault}
use Rattle.sp_lex.specs.declared.tokens.ReadFault.TheVariants as fault
use Rattle.sp_lex.specs.declared.tokens.Token.{Token}
use Rattle.sp_regex.specs.Syntax.{IsRegexText}

-- a text has at most 1,048,576 bytes; of a longer one so many and one more are looked at
abbrev pub most_bytes : ℕ
most_bytes = 1048576

abbrev pub looked_at : List ℕ → List ℕ
looked_at source = take (most_bytes + 1) source

-- the first byte that is no text: the first of an ill-formed sequence of UTF-8, or a byte 0
abbrev pub first_bad : List ℕ → ℕ
first_bad text = min (utf8_valid_len text) (position_or_len (λ byte. byte == 0) text)

-- without the first byte and the last
abbrev pub between : List ℕ → List ℕ
between bytes = take (length bytes - 2) (drop 1 bytes)

-- one byte, as a slice
abbrev pub byte_span : ℕ → Span
byte_span at = record { from = at; to = at + 1 }

-- What can be wrong with a token by its own bytes: its number is over 2^64 - 1, or what stands between its
-- slashes is no regular expression.
abbrev pub IsOwnFault : TokenKind → List ℕ → MKind → Type 0
IsOwnFault token_kind.Number bytes kind = (kind ≡ module_kind.LiteralRange) × (2 ^ 64 ≤ number_value bytes)
IsOwnFault token_kind.Regex bytes kind = (kind ≡ module_kind.BadRegex) × (¬ IsRegexText (between bytes))
IsOwnFault _ bytes kind = ⊥

-- nothing is wrong with the token by its own bytes
abbrev pub IsRight : List ℕ → Token → Type 0
IsRight text token = (kind : MKind) → ¬ IsOwnFault token.kind (bytes_of text token) kind

-- what can be wrong with a token at a nesting: that, or it is too deep
abbrev pub IsTokenFault : List ℕ → Nesting → Token → MKind → Type 0
IsTokenFault bytes nesting token kind =
    IsOwnFault token.kind bytes kind ⊎ ((kind ≡ module_kind.TooDeep) × (64 < level nesting (role_of token.kind)))

-- what is wrong with one of the tokens, or that the reading stops
abbrev pub IsReadingFault : List ℕ → Nesting → Reading → Span → MKind → Type 0
IsReadingFault text nesting Ends span kind = ⊥
IsReadingFault text nesting (Stops at) span kind = (span ≡ byte_span at) × (kind ≡ module_kind.BadToken)
IsReadingFault text nesting (Reads token more) span kind =
    ((span ≡ token.span) × IsTokenFault (bytes_of text token) nesting token kind)
    ⊎ IsReadingFault text (after nesting (role_of token.kind)) more span kind

-- what is wrong with a source as a whole: a byte in it is no text, or it is too large
abbrev pub IsTextFault : List ℕ → Span → MKind → Type 0
IsTextFault source span kind =
    ((span ≡ byte_span (first_bad (looked_at source))) × (kind ≡ module_kind.NotText) × (first_bad (looked_at source) < length (looked_at source)))
    ⊎ ((span ≡ record { from = 0; to = 0 }) × (kind ≡ module_kind.TooLarge) × (most_bytes < length source))

-- what is wrong with a source
abbrev pub IsFault : List ℕ → Span → MKind → Type 0
IsFault source span kind = IsTextFault source span kind ⊎ IsReadingFault (looked_at source) outermost (reading (looked_at source)) span kind

-- a fault goes before another by its place, and at one place by its number
abbrev pub GoesBefore : Span → MKind → Span → MKind → Type 0
GoesBefore span kind other other_kind =
    (span.from < other.from) ⊎ ((span.from ≡ other.from) × (module_kind_number kind ≤ module_kind_number other_kind))

-- what holds of a fault, unless memory ran out
abbrev pub OnDiag : (Span → MKind → Type 0) → ReadFault → Type 0
OnDiag P (fault.Diag span kind) = P span kind
OnDiag P fault.NoMemory = Unit {0}
