-- A text as white space, comments and tokens, one behind the other.
use Rattle.std.specs.Prelude.{ℕ, ◌≡◌, ◌+◌, ◌-◌, ◌<◌, ◌≤◌, zero, suc, List, [], ◌∷◌, Bool, true, false, length, drop, slice_range}
use Rattle.std.specs.List.{AllByRecursion}
use Rattle.sp_lex.specs.Elements.{ends_operand, element_at}
use Rattle.sp_lex.specs.Signs.{stands}
use Rattle.sp_lex.specs.Spellings.{spelling, signs}
use Rattle.sp_lex.specs.declared.elements.Element.{Element}
use Rattle.sp_lex.specs.declared.elements.Element.TheVariants as element
use Rattle.sp_lex.specs.declared.kinds.TokenKind.{TokenKind}
use Rattle.sp_lex.specs.declared.tokens.Token.{Token}

-- the tokens of a text in order, up to its end or to a place where no token stands
pub data Reading : Type 0 where
  Ends : Reading
  Stops : ℕ → Reading
  Reads : Token → Reading → Reading

-- a token of so many bytes at a place
abbrev pub token_at : TokenKind → ℕ → ℕ → Token
token_at kind at n = record { kind = kind; span = record { from = at; to = at + n } }

-- What is read from an element on: `go` reads on behind so many bytes. Only tokens decide whether a / divides.
abbrev pub reads_from : Element → ℕ → Bool → (Bool → ℕ → Reading) → Reading
reads_from (element.Blank n) at divides go = go divides n
reads_from (element.Token kind n) at divides go = Reads (token_at kind at n) (go (ends_operand kind) n)
reads_from element.Bad at divides go = Stops at

-- How the rest of a text is read: `at` is its place, `divides` says whether a / in it would divide, and its
-- first `left` bytes still belong to the element before it.
abbrev pub read_on : ℕ → Bool → ℕ → List ℕ → Reading
read_on at divides left [] = Ends
read_on at divides (suc left) (byte ∷ text) = read_on (at + 1) divides left text
read_on at divides zero (byte ∷ text) =
    reads_from (element_at divides (byte ∷ text)) at divides (λ behind n. read_on (at + 1) behind (n - 1) text)

-- how a whole text is read
abbrev pub reading : List ℕ → Reading
reading text = read_on 0 false 0 text

-- tokens, and then what else is read
abbrev pub behind : List Token → Reading → Reading
behind [] rest = rest
behind (token ∷ tokens) rest = Reads token (behind tokens rest)

-- the tokens alone, up to the text's end
abbrev pub whole : List Token → Reading
whole tokens = behind tokens Ends

-- the bytes of a token
abbrev pub bytes_of : List ℕ → Token → List ℕ
bytes_of text token = slice_range text token.span.from token.span.to

-- a token of a kind with a fixed text has that text
abbrev pub HasItsText : List ℕ → Token → Type 0
HasItsText text token = 0 < length (spelling token.kind) → bytes_of text token ≡ spelling token.kind

-- no token of punctuation that stands where the token begins is longer than it
unfoldable pub IsLongest : List ℕ → Token → Type 0
IsLongest text token = AllByRecursion (λ kind. stands kind (drop token.span.from text) ≡ true → token.span.from + length (spelling kind) ≤ token.span.to) signs

-- each token has bytes, begins behind the one before it, and ends within the text
abbrev pub InOrder : ℕ → List Token → ℕ → Type 0
InOrder at [] len = at ≤ len
InOrder at (token ∷ tokens) len = (at ≤ token.span.from) × (token.span.from < token.span.to) × InOrder token.span.to tokens len
