-- A text of lines, and the tokens as which its words are read.
use Rattle.std.specs.Prelude.{ℕ, ◌≡◌, List, [], ◌∷◌, flat_map}
use Rattle.sp_lex.specs.Literals.{number_value}
use Rattle.sp_lex.specs.Readings.{reading, whole, bytes_of}
use Rattle.sp_lex.specs.declared.tokens.Token.{Token}
use Rattle.sp_literals.specs.Values.{string_value, bytes_value, regex_text}
use Rattle.sp_print.specs.Page.{line}
use Rattle.sp_print.specs.Words.{Word, fixed, name, number, text, bytes, regex, written}
use Rattle.sp_law_printed_words.specs.Sound.{read_as}

-- lines of words, one behind the other
abbrev pub text_of : List (List Word) → List ℕ
text_of lines = flat_map line lines

-- the token is the word: of its kind, and with its bytes
pub record IsThis (all : List ℕ) (w : Word) (t : Token) : Type 0 where
  pub kind : t.kind ≡ read_as w
  pub bytes : bytes_of all t ≡ written w

-- the tokens of the text are the words, one for one
abbrev pub AreThese : List ℕ → List Word → List Token → Type 0
AreThese all [] [] = Unit {0}
AreThese all (w ∷ ws) (t ∷ ts) = IsThis all w t × AreThese all ws ts
AreThese all _ _ = ⊥

-- what the bytes of a word are worth is what the word says
abbrev pub IsWorth : Word → List ℕ → Type 0
IsWorth (fixed kind) its = Unit {0}
IsWorth (name x) its = its ≡ x
IsWorth (number n) its = number_value its ≡ n
IsWorth (text x) its = string_value its ≡ x
IsWorth (bytes x) its = bytes_value its ≡ x
IsWorth (regex x) its = regex_text its ≡ x

-- The tokens of the text of the lines: the whole text is read as them, and they are the words of the lines, in order.
pub record AreRead (lines : List (List Word)) (tokens : List Token) : Type 0 where
  pub read : reading (text_of lines) ≡ whole tokens
  pub these : AreThese (text_of lines) (flat_map (λ ws. ws) lines) tokens
