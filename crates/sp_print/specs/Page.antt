-- Words as a text: one space stands between two words, but none round a `::`.
use Rattle.std.specs.Prelude.{ℕ, List, [], ◌∷◌, ◌++◌, Bool, true, false, Option, Some, None, ◌||◌, if◌then◌else◌}
use Rattle.sp_lex.specs.declared.kinds.TokenKind.{TokenKind}
use Rattle.sp_lex.specs.declared.kinds.TokenKind.TheVariants as token
use Rattle.sp_words.specs.declared.punctuation.Punctuation.TheVariants as punctuation
use Rattle.sp_print.specs.Words.{Word, written, kind_of}

-- a text, and the kind of the last word on its line
pub record Page : Type 0 where
  pub text : List ℕ
  pub last : Option TokenKind

abbrev pub page : List ℕ → Option TokenKind → Page
page text last = record { text = text; last = last }

-- whether the token is a `::`
abbrev pub is_scope : TokenKind → Bool
is_scope (token.Punctuation punctuation.ColonColon) = true
is_scope _ = false

-- what stands between two words
abbrev pub gap : Option TokenKind → TokenKind → List ℕ
gap None kind = []
gap (Some before) kind = if is_scope before || is_scope kind then [] else 32 ∷ []

-- the text with one more word
abbrev pub put : Word → Page → Page
put w p = page (p.text ++ gap p.last (kind_of w) ++ written w) (Some (kind_of w))

-- the text with more words
abbrev pub puts : List Word → Page → Page
puts [] p = p
puts (w ∷ ws) p = puts ws (put w p)

-- words as a line of their own
abbrev pub line : List Word → List ℕ
line ws = (puts ws (page [] None)).text ++ 10 ∷ []
