-- The numbers of terminals are kinds of tokens, by their cases, which a script writes from tools/grammar.txt.
use Rattle.std.specs.Prelude.{map}
use Rattle.std.proofs.Common.{◌<◌, List, [], ◌∷◌, lit<}
use Rattle.sp_parser.specs.Grammar.{AreKinds, SECOND}
use Rattle.sp_words.specs.declared.keywords.Keyword.TheVariants as keyword
use Rattle.sp_words.specs.declared.punctuation.Punctuation.TheVariants as punctuation
use Rattle.sp_words.specs.declared.words.Property.TheVariants as property
use Rattle.sp_grammar.specs.declared.terminals.Terminal.{Terminal}
use Rattle.sp_grammar.specs.declared.terminals.Terminal.TheVariants as kind
use Rattle.sp_grammar.specs.Terminals.{terminal_number}

pub is_kind : (t : Terminal) → terminal_number t < SECOND
is_kind (kind.Keyword keyword.Module) = lit< tt
is_kind kind.Id = lit< tt
is_kind (kind.Punctuation punctuation.Semicolon) = lit< tt
is_kind (kind.Keyword keyword.Import) = lit< tt
is_kind (kind.Property property.ByteOrder) = lit< tt
is_kind (kind.Punctuation punctuation.Equal) = lit< tt
is_kind (kind.Property property.SpicyVersion) = lit< tt
is_kind kind.String = lit< tt
is_kind (kind.Keyword keyword.Public) = lit< tt
is_kind (kind.Keyword keyword.Type) = lit< tt
is_kind (kind.Keyword keyword.Const) = lit< tt
is_kind (kind.Keyword keyword.Function) = lit< tt
is_kind (kind.Punctuation punctuation.LeftParen) = lit< tt
is_kind (kind.Punctuation punctuation.RightParen) = lit< tt
is_kind (kind.Keyword keyword.On) = lit< tt
is_kind (kind.Punctuation punctuation.ColonColon) = lit< tt
is_kind kind.Hook = lit< tt
is_kind (kind.Punctuation punctuation.Colon) = lit< tt
is_kind (kind.Keyword keyword.Foreach) = lit< tt
is_kind kind.Priority = lit< tt
is_kind (kind.Punctuation punctuation.Comma) = lit< tt
is_kind (kind.Keyword keyword.Inout) = lit< tt
is_kind kind.IntWord = lit< tt
is_kind (kind.Keyword keyword.Bool) = lit< tt
is_kind (kind.Keyword keyword.Bytes) = lit< tt
is_kind (kind.Keyword keyword.String) = lit< tt
is_kind (kind.Keyword keyword.Void) = lit< tt
is_kind (kind.Keyword keyword.Tuple) = lit< tt
is_kind (kind.Punctuation punctuation.Less) = lit< tt
is_kind (kind.Keyword keyword.Vector) = lit< tt
is_kind (kind.Keyword keyword.Set) = lit< tt
is_kind (kind.Keyword keyword.Map) = lit< tt
is_kind (kind.Keyword keyword.Enum) = lit< tt
is_kind (kind.Punctuation punctuation.LeftBrace) = lit< tt
is_kind (kind.Punctuation punctuation.RightBrace) = lit< tt
is_kind (kind.Keyword keyword.Bitfield) = lit< tt
is_kind kind.Number = lit< tt
is_kind (kind.Keyword keyword.Unit) = lit< tt
is_kind (kind.Punctuation punctuation.DotDot) = lit< tt
is_kind (kind.Property property.Filter) = lit< tt
is_kind (kind.Property property.MimeType) = lit< tt
is_kind (kind.Property property.Description) = lit< tt
is_kind (kind.Keyword keyword.Var) = lit< tt
is_kind (kind.Keyword keyword.Sink) = lit< tt
is_kind (kind.Keyword keyword.Switch) = lit< tt
is_kind (kind.Punctuation punctuation.Star) = lit< tt
is_kind (kind.Punctuation punctuation.Arrow) = lit< tt
is_kind (kind.Punctuation punctuation.LeftBracket) = lit< tt
is_kind (kind.Punctuation punctuation.RightBracket) = lit< tt
is_kind kind.Attribute = lit< tt
is_kind (kind.Keyword keyword.If) = lit< tt
is_kind kind.Bytes = lit< tt
is_kind kind.Regex = lit< tt
is_kind (kind.Keyword keyword.Else) = lit< tt
is_kind (kind.Keyword keyword.Local) = lit< tt
is_kind (kind.Keyword keyword.While) = lit< tt
is_kind (kind.Keyword keyword.For) = lit< tt
is_kind (kind.Keyword keyword.In) = lit< tt
is_kind (kind.Keyword keyword.Return) = lit< tt
is_kind (kind.Keyword keyword.Break) = lit< tt
is_kind (kind.Keyword keyword.Continue) = lit< tt
is_kind (kind.Keyword keyword.Stop) = lit< tt
is_kind (kind.Keyword keyword.Confirm) = lit< tt
is_kind (kind.Keyword keyword.Reject) = lit< tt
is_kind (kind.Keyword keyword.Print) = lit< tt
is_kind (kind.Keyword keyword.Throw) = lit< tt
is_kind (kind.Keyword keyword.Assert) = lit< tt
is_kind (kind.Keyword keyword.Add) = lit< tt
is_kind (kind.Keyword keyword.Delete) = lit< tt
is_kind (kind.Keyword keyword.Case) = lit< tt
is_kind (kind.Keyword keyword.Default) = lit< tt
is_kind (kind.Punctuation punctuation.PlusEqual) = lit< tt
is_kind (kind.Punctuation punctuation.MinusEqual) = lit< tt
is_kind (kind.Punctuation punctuation.Question) = lit< tt
is_kind (kind.Punctuation punctuation.OrOr) = lit< tt
is_kind (kind.Punctuation punctuation.AndAnd) = lit< tt
is_kind (kind.Punctuation punctuation.NotIn) = lit< tt
is_kind (kind.Punctuation punctuation.EqualEqual) = lit< tt
is_kind (kind.Punctuation punctuation.NotEqual) = lit< tt
is_kind (kind.Punctuation punctuation.LessEqual) = lit< tt
is_kind (kind.Punctuation punctuation.GreaterEqual) = lit< tt
is_kind (kind.Punctuation punctuation.Bar) = lit< tt
is_kind (kind.Punctuation punctuation.Caret) = lit< tt
is_kind (kind.Punctuation punctuation.Ampersand) = lit< tt
is_kind (kind.Punctuation punctuation.ShiftLeft) = lit< tt
is_kind (kind.Punctuation punctuation.Plus) = lit< tt
is_kind (kind.Punctuation punctuation.Minus) = lit< tt
is_kind (kind.Punctuation punctuation.Slash) = lit< tt
is_kind (kind.Punctuation punctuation.Percent) = lit< tt
is_kind (kind.Punctuation punctuation.Bang) = lit< tt
is_kind (kind.Punctuation punctuation.Tilde) = lit< tt
is_kind (kind.Punctuation punctuation.Dot) = lit< tt
is_kind (kind.Punctuation punctuation.QuestionDot) = lit< tt
is_kind kind.Skip = lit< tt
is_kind (kind.Keyword keyword.Itself) = lit< tt
is_kind (kind.Punctuation punctuation.DollarDollar) = lit< tt
is_kind (kind.Keyword keyword.True) = lit< tt
is_kind (kind.Keyword keyword.False) = lit< tt
is_kind (kind.Keyword keyword.Cast) = lit< tt
is_kind (kind.Keyword keyword.New) = lit< tt
is_kind (kind.Punctuation punctuation.Greater) = lit< tt
is_kind (kind.Punctuation punctuation.ShiftRight) = lit< tt

pub terminals_are_kinds : (terminals : List Terminal) → AreKinds (map terminal_number terminals)
terminals_are_kinds [] = tt
terminals_are_kinds (t ∷ terminals) = (is_kind t, terminals_are_kinds terminals)
