-- How deep tokens are nested: the level of a token.
use Rattle.std.specs.Prelude.{ℕ, ◌+◌, ◌≤◌, List, [], ◌∷◌, All}
use Rattle.sp_words.specs.declared.keywords.Keyword.{Keyword}
use Rattle.sp_words.specs.declared.keywords.Keyword.TheVariants as keyword
use Rattle.sp_words.specs.declared.punctuation.Punctuation.{Punctuation}
use Rattle.sp_words.specs.declared.punctuation.Punctuation.TheVariants as punctuation
use Rattle.sp_lex.specs.declared.kinds.TokenKind.{TokenKind}
use Rattle.sp_lex.specs.declared.kinds.TokenKind.TheVariants as token
use Rattle.sp_lex.specs.declared.nesting.Bracket.{Bracket}
use Rattle.sp_lex.specs.declared.nesting.Nesting.{Nesting}
use Rattle.sp_lex.specs.declared.nesting.Role.{Role}
use Rattle.sp_lex.specs.declared.nesting.Role.TheVariants as role

-- brackets open and close; a , or ; ends a part; a : counts for nothing; all other punctuation counts
abbrev pub punctuation_role : Punctuation → Role
punctuation_role punctuation.LeftParen = role.OpensPair
punctuation_role punctuation.LeftBracket = role.OpensPair
punctuation_role punctuation.LeftBrace = role.OpensBlock
punctuation_role punctuation.RightParen = role.ClosesPair
punctuation_role punctuation.RightBracket = role.ClosesPair
punctuation_role punctuation.RightBrace = role.ClosesBlock
punctuation_role punctuation.Comma = role.EndsPart
punctuation_role punctuation.Semicolon = role.EndsPart
punctuation_role punctuation.Colon = role.Plain
punctuation_role _ = role.Counts

-- the words that begin a statement in a statement, and `in`, count
abbrev pub word_role : Keyword → Role
word_role keyword.If = role.Counts
word_role keyword.While = role.Counts
word_role keyword.For = role.Counts
word_role keyword.In = role.Counts
word_role _ = role.Plain

-- what a token does to the level
abbrev pub role_of : TokenKind → Role
role_of (token.Punctuation m) = punctuation_role m
role_of (token.Keyword k) = word_role k
role_of _ = role.Plain

-- the level in a bracket: its base, and what was counted in it so far
abbrev pub level_in : Bracket → ℕ
level_in bracket = bracket.base + bracket.count

-- the level of a token: a token that counts does so at itself; a closing bracket stands inside itself
abbrev pub level : Nesting → Role → ℕ
level nesting role.Counts = level_in nesting.here + 1
level nesting _ = level_in nesting.here

-- one more was counted; the count begins anew
abbrev pub counted : Bracket → Bracket
counted bracket = record { base = bracket.base; count = bracket.count + 1 }

abbrev pub anew : Bracket → Bracket
anew bracket = record { base = bracket.base; count = 0 }

-- inside a bracket that opens here
abbrev pub inside : Bracket → Bracket
inside bracket = record { base = level_in bracket + 1; count = 0 }

-- behind what closes the innermost bracket; where none is open, `last` is left
abbrev pub closed : (Bracket → Bracket) → Bracket → List Bracket → Nesting
closed left last [] = record { here = last; outer = [] }
closed left last (bracket ∷ outer) = record { here = left bracket; outer = outer }

-- The nesting behind a token. Each pair ( ) or [ ] that was closed counts once; the count begins anew behind a
-- comma, a semicolon and both brackets of a block. A closing bracket closes the innermost open one, of any kind.
abbrev pub after : Nesting → Role → Nesting
after nesting role.Plain = nesting
after nesting role.Counts = record { here = counted nesting.here; outer = nesting.outer }
after nesting role.EndsPart = record { here = anew nesting.here; outer = nesting.outer }
after nesting role.OpensPair = record { here = inside nesting.here; outer = nesting.here ∷ nesting.outer }
after nesting role.OpensBlock = record { here = inside nesting.here; outer = anew nesting.here ∷ nesting.outer }
after nesting role.ClosesPair = closed counted nesting.here nesting.outer
after nesting role.ClosesBlock = closed anew (anew nesting.here) nesting.outer

-- outside of all brackets, before the first token
abbrev pub outermost : Nesting
outermost = record { here = record { base = 0; count = 0 }; outer = [] }

-- no token before was too deep
abbrev pub IsBounded : Nesting → Type 0
IsBounded nesting = (level_in nesting.here ≤ 65) × All (λ bracket. level_in bracket ≤ 64) nesting.outer
