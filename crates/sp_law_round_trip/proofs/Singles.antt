-- The kind of token that each terminal of the grammar is, where it is only one.
use Rattle.std.proofs.Common.{◌≡◌, ℕ, List, [], ◌∷◌, get_or, Bool, true, false, refl}
use Rattle.sp_words.specs.declared.keywords.Keyword.TheVariants as keyword
use Rattle.sp_words.specs.declared.punctuation.Punctuation.TheVariants as punctuation
use Rattle.sp_words.specs.declared.words.Property.TheVariants as property
use Rattle.sp_lex.specs.declared.kinds.TokenKind.{TokenKind}
use Rattle.sp_lex.specs.declared.kinds.TokenKind.TheVariants as token
use Rattle.sp_phrases.specs.Kinds.{number_of, terminal_of}
use Rattle.sp_build.proofs.Told.{never}

-- the kinds in the order of the terminals; a name where a terminal is no kind or several
abbrev all_kinds : List TokenKind
all_kinds = token.Keyword keyword.Module ∷ token.Id ∷ token.Punctuation punctuation.Semicolon ∷ token.Keyword keyword.Import ∷ token.Property property.ByteOrder ∷ token.Punctuation punctuation.Equal ∷ token.Property property.SpicyVersion ∷ token.Id ∷ token.Keyword keyword.Public ∷ token.Keyword keyword.Type ∷ token.Keyword keyword.Const ∷ token.Keyword keyword.Function ∷ token.Punctuation punctuation.LeftParen ∷ token.Punctuation punctuation.RightParen ∷ token.Keyword keyword.On ∷ token.Punctuation punctuation.ColonColon ∷ token.Id ∷ token.Punctuation punctuation.Colon ∷ token.Keyword keyword.Foreach ∷ token.Priority ∷ token.Punctuation punctuation.Comma ∷ token.Keyword keyword.Inout ∷ token.Id ∷ token.Keyword keyword.Bool ∷ token.Keyword keyword.Bytes ∷ token.Keyword keyword.String ∷ token.Keyword keyword.Void ∷ token.Keyword keyword.Tuple ∷ token.Punctuation punctuation.Less ∷ token.Keyword keyword.Vector ∷ token.Keyword keyword.Set ∷ token.Keyword keyword.Map ∷ token.Keyword keyword.Enum ∷ token.Punctuation punctuation.LeftBrace ∷ token.Punctuation punctuation.RightBrace ∷ token.Keyword keyword.Bitfield ∷ token.Id ∷ token.Keyword keyword.Unit ∷ token.Punctuation punctuation.DotDot ∷ token.Property property.Filter ∷ token.Property property.MimeType ∷ token.Property property.Description ∷ token.Keyword keyword.Var ∷ token.Keyword keyword.Sink ∷ token.Keyword keyword.Switch ∷ token.Punctuation punctuation.Star ∷ token.Punctuation punctuation.Arrow ∷ token.Punctuation punctuation.LeftBracket ∷ token.Punctuation punctuation.RightBracket ∷ token.Id ∷ token.Keyword keyword.If ∷ token.Id ∷ token.Id ∷ token.Keyword keyword.Else ∷ token.Keyword keyword.Local ∷ token.Keyword keyword.While ∷ token.Keyword keyword.For ∷ token.Keyword keyword.In ∷ token.Keyword keyword.Return ∷ token.Keyword keyword.Break ∷ token.Keyword keyword.Continue ∷ token.Keyword keyword.Stop ∷ token.Keyword keyword.Confirm ∷ token.Keyword keyword.Reject ∷ token.Keyword keyword.Print ∷ token.Keyword keyword.Throw ∷ token.Keyword keyword.Assert ∷ token.Keyword keyword.Add ∷ token.Keyword keyword.Delete ∷ token.Keyword keyword.Case ∷ token.Keyword keyword.Default ∷ token.Punctuation punctuation.PlusEqual ∷ token.Punctuation punctuation.MinusEqual ∷ token.Punctuation punctuation.Question ∷ token.Punctuation punctuation.OrOr ∷ token.Punctuation punctuation.AndAnd ∷ token.Punctuation punctuation.NotIn ∷ token.Punctuation punctuation.EqualEqual ∷ token.Punctuation punctuation.NotEqual ∷ token.Punctuation punctuation.LessEqual ∷ token.Punctuation punctuation.GreaterEqual ∷ token.Punctuation punctuation.Bar ∷ token.Punctuation punctuation.Caret ∷ token.Punctuation punctuation.Ampersand ∷ token.Punctuation punctuation.ShiftLeft ∷ token.Punctuation punctuation.Plus ∷ token.Punctuation punctuation.Minus ∷ token.Punctuation punctuation.Slash ∷ token.Punctuation punctuation.Percent ∷ token.Punctuation punctuation.Bang ∷ token.Punctuation punctuation.Tilde ∷ token.Punctuation punctuation.Dot ∷ token.Punctuation punctuation.QuestionDot ∷ token.Id ∷ token.Keyword keyword.Itself ∷ token.Punctuation punctuation.DollarDollar ∷ token.Keyword keyword.True ∷ token.Keyword keyword.False ∷ token.Keyword keyword.Cast ∷ token.Keyword keyword.New ∷ token.Id ∷ token.Id ∷ token.Id ∷ token.Id ∷ token.Id ∷ token.Id ∷ token.Id ∷ token.Id ∷ token.Id ∷ token.Id ∷ token.Id ∷ token.Id ∷ token.Id ∷ token.Id ∷ token.Id ∷ token.Id ∷ token.Id ∷ token.Id ∷ token.Id ∷ token.Id ∷ token.Punctuation punctuation.Greater ∷ token.Punctuation punctuation.ShiftRight ∷ []

abbrev pub kind_for : ℕ → TokenKind
kind_for e = get_or all_kinds e token.Id

-- whether the kind is the only one of its terminal
abbrev pub is_single : TokenKind → Bool
is_single (token.Keyword k) = true
is_single (token.Punctuation m) = true
is_single (token.Property p) = true
is_single token.Priority = true
is_single _ = false

pub kind_again : (k : TokenKind) → is_single k ≡ true → kind_for (number_of (terminal_of k)) ≡ k
kind_again (token.Keyword keyword.Module) e = refl
kind_again (token.Keyword k) e = refl
kind_again (token.Punctuation punctuation.Colon) e = refl
kind_again (token.Punctuation m) e = refl
kind_again (token.Property property.Filter) e = refl
kind_again (token.Property p) e = refl
kind_again token.Priority e = refl
kind_again _ e = never e
