-- Runs of tokens that begin or are texts of the grammar in its own words, and the refusal of what is none.
use Rattle.std.specs.Prelude.{ℕ, ◌≡◌, ◌+◌, ◌==◌, ◌&&◌, not, List, [], ◌∷◌, take, drop, Bool, true}
use Rattle.sp_base.specs.declared.kinds.MKind.{MKind}
use Rattle.sp_base.specs.declared.kinds.MKind.TheVariants as module_kind
use Rattle.sp_base.specs.declared.places.Span.{Span}
use Rattle.sp_lex.specs.declared.kinds.TokenKind.{TokenKind}
use Rattle.sp_lex.specs.declared.kinds.TokenKind.TheVariants as token_kind
use Rattle.sp_lex.specs.declared.tokens.Token.{Token}
use Rattle.sp_parser.specs.declared.symbol.ActionAt.{ActionAt}
use Rattle.sp_parser.specs.declared.symbol.Symbol.{Symbol}
use Rattle.sp_parser.specs.declared.symbol.Symbol.TheVariants as symbol
use Rattle.sp_parser.specs.Grammar.{Table, Production}
use Rattle.sp_grammar.specs.declared.language.Start.{Start}
use Rattle.sp_grammar.specs.Sentences.{IsSentence, IsLongestPrefix}
use Rattle.sp_phrases.specs.Kinds.{numbers_of}

-- the first m tokens begin some text of this kind, and no longer run of them does
abbrev pub IsLongestRun : Start → List Token → ℕ → Type 0
IsLongestRun start tokens m = IsLongestPrefix start (numbers_of tokens) m

-- the first m tokens are a text of this kind, and the grammar reads them passing these actions
abbrev pub IsPhrase : Start → List Token → ℕ → List ActionAt → Type 0
IsPhrase start tokens m actions = IsSentence start (take m (numbers_of tokens)) actions

-- What is read of the tokens from a place on, and the place behind it: their longest run, which is a text.
abbrev pub IsRead : Start → List Token → ℕ → List ActionAt → ℕ → Type 0
IsRead start tokens at actions to =
    (m : ℕ) × (to ≡ at + m) × IsLongestRun start (drop at tokens) m × IsPhrase start (drop at tokens) m actions

-- where a text is refused before these tokens: at the first of them, or at the end of the source
abbrev pub refused_at : ℕ → List Token → Span
refused_at end [] = record { from = end; to = end }
refused_at end (token ∷ tokens) = token.span

-- a token that was not expected, unless it is a word out of profile
abbrev pub unexpected : TokenKind → MKind
unexpected (token_kind.Absent word) = module_kind.OutOfProfile
unexpected _ = module_kind.Unexpected

-- with what a text is refused before these tokens
abbrev pub refused_with : List Token → MKind
refused_with [] = module_kind.Unexpected
refused_with (token ∷ tokens) = unexpected token.kind

-- What is read from a place on is refused: the longest run is no text, and the refusal is behind it.
abbrev pub IsRefused : Start → List Token → ℕ → ℕ → Span → MKind → Type 0
IsRefused start tokens at end span kind =
    (m : ℕ) × IsLongestRun start (drop at tokens) m
    × ((actions : List ActionAt) → ¬ IsPhrase start (drop at tokens) m actions)
    × (span ≡ refused_at end (drop (at + m) tokens))
    × (kind ≡ refused_with (drop (at + m) tokens))

abbrev pub is_other : ℕ → Symbol → Bool
is_other k (symbol.Terminal e) = not (e == k)
is_other k _ = true

abbrev pub are_other : ℕ → List Symbol → Bool
are_other k [] = true
are_other k (s ∷ ss) = is_other k s && are_other k ss

abbrev pub stands_in_none : ℕ → List Production → Bool
stands_in_none k [] = true
stands_in_none k (p ∷ ps) = are_other k p.symbols && stands_in_none k ps

abbrev pub in_no_part : ℕ → List (List Production) → Bool
in_no_part k [] = true
in_no_part k (ps ∷ rest) = stands_in_none k ps && in_no_part k rest

-- no production of the grammar has this terminal
abbrev pub stands_nowhere : ℕ → Table → Bool
stands_nowhere k g = in_no_part k g.productions
