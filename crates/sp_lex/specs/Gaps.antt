-- What stands between tokens: white space and comments.
use Rattle.std.specs.Prelude.{ℕ, ◌≡◌, List, [], ◌∷◌, ◌++◌, true, drop, slice_range}
use Rattle.std.specs.List.{AllByRecursion}
use Rattle.sp_lex.specs.Bytes.{is_white, is_in_line}
use Rattle.sp_lex.specs.declared.tokens.Token.{Token}

-- a line ends where the text begins: with a line feed, or as the text does
abbrev pub EndsLine : List ℕ → Type 0
EndsLine [] = Unit {0}
EndsLine (byte ∷ rest) = byte ≡ 10

-- A gap before the rest of a text: bytes of white space and comments, each from a # up to the end of its line.
pub data IsGap : List ℕ → List ℕ → Type 0 where
  no_gap : {rest : List ℕ} → IsGap [] rest
  white : (byte : ℕ) {gap rest : List ℕ} → is_white byte ≡ true → IsGap gap rest → IsGap (byte ∷ gap) rest
  comment : (line gap : List ℕ) {rest : List ℕ} → AllByRecursion (λ byte. is_in_line byte ≡ true) line → EndsLine (gap ++ rest) → IsGap gap rest → IsGap (35 ∷ line ++ gap) rest

-- from a place on, a gap before each token, and one before the text's end
abbrev pub AreSpaced : List ℕ → ℕ → List Token → Type 0
AreSpaced text at [] = IsGap (drop at text) []
AreSpaced text at (token ∷ tokens) = IsGap (slice_range text at token.span.from) (drop token.span.from text) × AreSpaced text token.span.to tokens
