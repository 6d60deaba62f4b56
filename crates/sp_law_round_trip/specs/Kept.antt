-- The words of a text that stay in its canonical text: all but parentheses, semicolons and commas.
use Rattle.std.specs.Prelude.{List, [], ◌∷◌, flat_map, map}
use Rattle.sp_words.specs.declared.punctuation.Punctuation.TheVariants as punctuation
use Rattle.sp_lex.specs.declared.kinds.TokenKind.TheVariants as token
use Rattle.sp_print.specs.Words.{Word, fixed}
use Rattle.sp_law_round_trip.specs.Told.{Telling}

-- a word itself, and a >> is two >
abbrev pub kept_of : Word → List Word
kept_of (fixed (token.Punctuation punctuation.LeftParen)) = []
kept_of (fixed (token.Punctuation punctuation.RightParen)) = []
kept_of (fixed (token.Punctuation punctuation.Semicolon)) = []
kept_of (fixed (token.Punctuation punctuation.Comma)) = []
kept_of (fixed (token.Punctuation punctuation.ShiftRight)) = fixed (token.Punctuation punctuation.Greater) ∷ fixed (token.Punctuation punctuation.Greater) ∷ []
kept_of w = w ∷ []

abbrev pub kept : List Word → List Word
kept ws = flat_map kept_of ws

-- the words of what is told
abbrev pub words_told : List Telling → List Word
words_told ts = map (λ t. let x : Telling = t in x.word) ts
