-- What the tokens of a text tell.
use Rattle.std.specs.Prelude.{ℕ, List, map}
use Rattle.sp_lex.specs.declared.kinds.Absent.TheVariants as absent
use Rattle.sp_lex.specs.declared.kinds.TokenKind.{TokenKind}
use Rattle.sp_lex.specs.declared.kinds.TokenKind.TheVariants as token
use Rattle.sp_lex.specs.declared.tokens.Token.{Token}
use Rattle.sp_lex.specs.Lexed.{Lexed}
use Rattle.sp_lex.specs.Literals.{number_value}
use Rattle.sp_lex.specs.Readings.{bytes_of}
use Rattle.sp_literals.specs.Values.{string_value, bytes_value, regex_text}
use Rattle.sp_print.specs.Words.{Word, fixed, name, number, text, bytes, regex}

-- the word that a token is, by its kind and its bytes
abbrev pub word_of : TokenKind → List ℕ → Word
word_of token.Id b = name b
word_of (token.Absent absent.Skip) b = name b
word_of token.Number b = number (number_value b)
word_of token.String b = text (string_value b)
word_of token.Bytes b = bytes (bytes_value b)
word_of token.Regex b = regex (regex_text b)
word_of kind b = fixed kind

-- a token's kind, and the word that it is
pub record Telling : Type 0 where
  pub kind : TokenKind
  pub word : Word

abbrev pub telling : List ℕ → Token → Telling
telling source t = record { kind = t.kind; word = word_of t.kind (bytes_of source t) }

-- what all tokens of a text tell
abbrev pub told : Lexed → List Telling
told lexed = map (telling lexed.text) lexed.list
