-- Words that can be read again, and where they may stand.
use Rattle.std.specs.Prelude.{ℕ, ◌≡◌, ◌<◌, ◌^◌, List, [], ◌∷◌, Bool, true, false, not, Option, Some, None, length, slice_index}
use Rattle.std.specs.List.{AllByRecursion}
use Rattle.std.specs.Str.{IsUtf8}
use Rattle.sp_lex.specs.Bytes.{is_letter, is_word}
use Rattle.sp_lex.specs.Elements.{ends_operand, token_of, element_at}
use Rattle.sp_lex.specs.Signs.{word_kind}
use Rattle.sp_words.specs.declared.punctuation.Punctuation.TheVariants as punctuation
use Rattle.sp_lex.specs.declared.kinds.TokenKind.{TokenKind}
use Rattle.sp_lex.specs.declared.kinds.TokenKind.TheVariants as token
use Rattle.sp_literals.specs.Values.{IsName}
use Rattle.sp_print.specs.Words.{Word, fixed, name, number, text, bytes, regex, written, kind_of}
use Rattle.sp_regex.specs.Syntax.{IsRegexText}

-- whether all tokens of the kind have one text, and the profile has them
abbrev pub is_fixed : TokenKind → Bool
is_fixed (token.Keyword k) = true
is_fixed (token.Integer i) = true
is_fixed (token.Punctuation m) = true
is_fixed (token.Attribute a) = true
is_fixed token.Priority = true
is_fixed (token.Property p) = true
is_fixed (token.Hook h) = true
is_fixed _ = false

-- the kind of token as which a word is read; the name `skip` is a reserved word
abbrev pub read_as : Word → TokenKind
read_as (name x) = word_kind x
read_as w = kind_of w

-- what can be a name: a letter, and then letters, digits and _; no reserved word but `skip`
abbrev pub IsNameText : List ℕ → Type 0
IsNameText x = (is_letter (slice_index x 0) ≡ true) × AllByRecursion (λ byte. is_word byte ≡ true) x × IsName (word_kind x)

-- What can stand between slashes: UTF-8 in which no slash ends the token, and of which the lexer doesn't find that it is
-- no regular expression.
abbrev pub IsRegexWord : List ℕ → Type 0
IsRegexWord x = (element_at false (written (regex x)) ≡ token_of token.Regex (Some (length (written (regex x))))) × (¬ (¬ IsRegexText x)) × IsUtf8 x

-- a word that can be read again
abbrev pub IsSound : Word → Type 0
IsSound (fixed kind) = is_fixed kind ≡ true
IsSound (name x) = IsNameText x
IsSound (number n) = n < 2 ^ 64
IsSound (text x) = IsUtf8 x
IsSound (bytes x) = AllByRecursion (λ byte. byte < 256) x
IsSound (regex x) = IsRegexWord x

abbrev pub is_colon : TokenKind → Bool
is_colon (token.Punctuation punctuation.Colon) = true
is_colon _ = false

-- Whether a token of the kind may stand behind the one before on its line: a / only where it divides, a regular
-- expression only where a / wouldn't divide, and neither at the beginning of a line, where the line before decides;
-- a :: has no space before it, so it can't stand behind a colon.
abbrev pub may_follow : Option TokenKind → TokenKind → Bool
may_follow (Some before) (token.Punctuation punctuation.Slash) = ends_operand before
may_follow (Some before) token.Regex = not (ends_operand before)
may_follow (Some before) (token.Punctuation punctuation.ColonColon) = not (is_colon before)
may_follow None (token.Punctuation punctuation.Slash) = false
may_follow None token.Regex = false
may_follow before kind = true

-- words of which each may follow the one before, with the kind of the word before them
abbrev pub ArePlaced : Option TokenKind → List Word → Type 0
ArePlaced before [] = Unit {0}
ArePlaced before (w ∷ ws) = (may_follow before (read_as w) ≡ true) × ArePlaced (Some (read_as w)) ws

-- lines of words that can be read again, each where it may stand
pub record AreSound (lines : List (List Word)) : Type 0 where
  pub words : AllByRecursion (AllByRecursion IsSound) lines
  pub places : AllByRecursion (ArePlaced None) lines

-- No text may have a byte 0, and only a regular expression is written with those that it has: it has none.
abbrev pub HasNoZero : Word → Type 0
HasNoZero (regex x) = AllByRecursion (λ byte. 0 < byte) x
HasNoZero w = Unit {0}

abbrev pub HaveNoZero : List (List Word) → Type 0
HaveNoZero lines = AllByRecursion (AllByRecursion HasNoZero) lines
