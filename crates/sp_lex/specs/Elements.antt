-- What stands where a text begins: white space, a comment, or a token.
use Rattle.std.specs.Prelude.{ℕ, ◌<◌, ◌≤◌, List, Bool, true, false, ◌==◌, ◌&&◌, if◌then◌else◌, length, take, slice_index, Option, Some, None}
use Rattle.std.specs.List.{prefix_len}
use Rattle.std.specs.Char.{is_ascii_digit}
use Rattle.sp_lex.specs.Bytes.{is_white, is_in_line, is_letter, is_word}
use Rattle.sp_lex.specs.Literals.{literal_len, number_len}
use Rattle.sp_lex.specs.Signs.{longest_sign, word_kind}
use Rattle.sp_lex.specs.Spellings.{spelling}
use Rattle.sp_lex.specs.declared.elements.Element.{Element}
use Rattle.sp_lex.specs.declared.elements.Element.TheVariants as element
use Rattle.sp_lex.specs.declared.elements.Start.{Start}
use Rattle.sp_lex.specs.declared.elements.Start.TheVariants as start
use Rattle.sp_words.specs.declared.punctuation.Punctuation.TheVariants as punctuation
use Rattle.sp_lex.specs.declared.kinds.TokenKind.{TokenKind}
use Rattle.sp_lex.specs.declared.kinds.TokenKind.TheVariants as token
use Rattle.sp_lex.specs.declared.literals.Form.{Form}
use Rattle.sp_lex.specs.declared.literals.Form.TheVariants as form

-- Whether a / behind a token of the kind divides. Behind all other tokens, and where none is before it, a /
-- begins a regular expression.
abbrev pub ends_operand : TokenKind → Bool
ends_operand token.Id = true
ends_operand token.Number = true
ends_operand token.String = true
ends_operand token.Bytes = true
ends_operand (token.Punctuation punctuation.DollarDollar) = true
ends_operand (token.Punctuation punctuation.RightParen) = true
ends_operand (token.Punctuation punctuation.RightBracket) = true
ends_operand (token.Punctuation punctuation.Bar) = true
ends_operand _ = false

-- what a first byte can begin
abbrev pub start_of : ℕ → Start
start_of byte =
    if is_white byte then start.Space
    else (if byte == 35 then start.Comment
    else (if is_letter byte then start.Letter
    else (if is_ascii_digit byte then start.Digit
    else (if byte == 34 then start.Quote
    else (if byte == 47 then start.Slash
    else start.Sign)))))

-- the kind of a literal
abbrev pub form_kind : Form → TokenKind
form_kind form.String = token.String
form_kind form.Bytes = token.Bytes
form_kind form.Regex = token.Regex

-- a token of so many bytes, or none
abbrev pub token_of : TokenKind → Option ℕ → Element
token_of kind None = element.Bad
token_of kind (Some n) = element.Token kind n

-- a literal, from its opening bytes on
unfoldable pub literal_at : Form → List ℕ → Element
literal_at form text = token_of (form_kind form) (literal_len form text)

-- the longest token of punctuation
abbrev pub sign_of : Option TokenKind → Element
sign_of None = element.Bad
sign_of (Some kind) = element.Token kind (length (spelling kind))

unfoldable pub sign_at : List ℕ → Element
sign_at text = sign_of (longest_sign text)

-- A word with all of its letters, digits and _. A b with a quote at once behind it begins a BYTES.
unfoldable pub word_at : List ℕ → Element
word_at text =
    if slice_index text 0 == 98 && slice_index text 1 == 34 then literal_at form.Bytes text
    else element.Token (word_kind (take (prefix_len is_word text) text)) (prefix_len is_word text)

-- what begins with such a byte
abbrev pub element_from : Start → Bool → List ℕ → Element
element_from start.Space divides text = element.Blank 1
element_from start.Comment divides text = element.Blank (prefix_len is_in_line text)
element_from start.Letter divides text = word_at text
element_from start.Digit divides text = element.Token token.Number (number_len text)
element_from start.Quote divides text = literal_at form.String text
element_from start.Slash true text = sign_at text
element_from start.Slash false text = literal_at form.Regex text
element_from start.Sign divides text = sign_at text

-- what stands where the text begins, if a / there divides, or not
unfoldable pub element_at : Bool → List ℕ → Element
element_at divides text = element_from (start_of (slice_index text 0)) divides text

-- it has at least one byte, and no more than there are
abbrev pub IsWithin : Element → ℕ → Type 0
IsWithin (element.Blank n) len = (0 < n) × (n ≤ len)
IsWithin (element.Token _ n) len = (0 < n) × (n ≤ len)
IsWithin element.Bad len = Unit {0}
