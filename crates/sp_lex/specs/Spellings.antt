-- How the tokens with a fixed text are written.
use Rattle.std.specs.Prelude.{ℕ, List, [], ◌∷◌, codes}
use Rattle.sp_words.specs.Keywords.{keyword_text}
use Rattle.sp_words.specs.Punctuation.{punctuation_text}
use Rattle.sp_words.specs.Words.{integer_text, attribute_text, property_text, hook_text}
use Rattle.sp_words.specs.declared.keywords.Keyword.TheVariants as keyword
use Rattle.sp_words.specs.declared.punctuation.Punctuation.TheVariants as punctuation
use Rattle.sp_words.specs.declared.words.Property.TheVariants as property
use Rattle.sp_words.specs.declared.words.IntWord.TheVariants as int
use Rattle.sp_words.specs.declared.words.AttributeName.TheVariants as attribute
use Rattle.sp_words.specs.declared.words.HookName.TheVariants as hook
use Rattle.sp_lex.specs.declared.kinds.Absent.{Absent}
use Rattle.sp_lex.specs.declared.kinds.Absent.TheVariants as absent
use Rattle.sp_lex.specs.declared.kinds.TokenKind.{TokenKind}
use Rattle.sp_lex.specs.declared.kinds.TokenKind.TheVariants as token

-- what the profile leaves out: reserved words, an attribute, properties and a hook
abbrev pub absent_text : Absent → List ℕ
absent_text absent.Global = codes "global"
absent_text absent.Struct = codes "struct"
absent_text absent.Optional = codes "optional"
absent_text absent.Result = codes "result"
absent_text absent.Real = codes "real"
absent_text absent.Time = codes "time"
absent_text absent.Interval = codes "interval"
absent_text absent.Addr = codes "addr"
absent_text absent.Port = codes "port"
absent_text absent.Network = codes "network"
absent_text absent.Iterator = codes "iterator"
absent_text absent.Stream = codes "stream"
absent_text absent.Skip = codes "skip"
absent_text absent.Try = codes "try"
absent_text absent.Catch = codes "catch"
absent_text absent.Unset = codes "unset"
absent_text absent.ChunkedAttribute = codes "&chunked"
absent_text absent.PortProperty = codes "%port"
absent_text absent.ContextProperty = codes "%context"
absent_text absent.SynchronizeAtProperty = codes "%synchronize-at"
absent_text absent.SynchronizeAfterProperty = codes "%synchronize-after"
absent_text absent.CxxIncludeProperty = codes "%cxx-include"
absent_text absent.SyncAdvanceHook = codes "%sync_advance"

-- how every token of the kind is written; nothing where tokens of the kind differ
abbrev pub spelling : TokenKind → List ℕ
spelling token.Id = []
spelling token.Number = []
spelling token.String = []
spelling token.Bytes = []
spelling token.Regex = []
spelling (token.Keyword k) = keyword_text k
spelling (token.Integer i) = integer_text i
spelling (token.Punctuation m) = punctuation_text m
spelling (token.Attribute a) = attribute_text a
spelling token.Priority = codes "&priority"
spelling (token.Property p) = property_text p
spelling (token.Hook h) = hook_text h
spelling (token.Absent a) = absent_text a

-- all kinds whose text is a word: no name may be one of them
abbrev pub reserved_words : List TokenKind
reserved_words =
    token.Keyword keyword.Module ∷
    token.Keyword keyword.Import ∷
    token.Keyword keyword.Public ∷
    token.Keyword keyword.Type ∷
    token.Keyword keyword.Const ∷
    token.Keyword keyword.Function ∷
    token.Keyword keyword.On ∷
    token.Keyword keyword.Inout ∷
    token.Keyword keyword.Unit ∷
    token.Keyword keyword.Enum ∷
    token.Keyword keyword.Bitfield ∷
    token.Keyword keyword.Tuple ∷
    token.Keyword keyword.Vector ∷
    token.Keyword keyword.Map ∷
    token.Keyword keyword.Set ∷
    token.Keyword keyword.Bool ∷
    token.Keyword keyword.Bytes ∷
    token.Keyword keyword.String ∷
    token.Keyword keyword.Void ∷
    token.Integer int.Uint8 ∷
    token.Integer int.Uint16 ∷
    token.Integer int.Uint32 ∷
    token.Integer int.Uint64 ∷
    token.Integer int.Int8 ∷
    token.Integer int.Int16 ∷
    token.Integer int.Int32 ∷
    token.Integer int.Int64 ∷
    token.Keyword keyword.Var ∷
    token.Keyword keyword.Sink ∷
    token.Keyword keyword.Switch ∷
    token.Keyword keyword.Case ∷
    token.Keyword keyword.Default ∷
    token.Keyword keyword.If ∷
    token.Keyword keyword.Else ∷
    token.Keyword keyword.While ∷
    token.Keyword keyword.For ∷
    token.Keyword keyword.In ∷
    token.Keyword keyword.Foreach ∷
    token.Keyword keyword.Local ∷
    token.Keyword keyword.Return ∷
    token.Keyword keyword.Break ∷
    token.Keyword keyword.Continue ∷
    token.Keyword keyword.Print ∷
    token.Keyword keyword.Assert ∷
    token.Keyword keyword.Throw ∷
    token.Keyword keyword.Add ∷
    token.Keyword keyword.Delete ∷
    token.Keyword keyword.Stop ∷
    token.Keyword keyword.Confirm ∷
    token.Keyword keyword.Reject ∷
    token.Keyword keyword.New ∷
    token.Keyword keyword.Cast ∷
    token.Keyword keyword.Itself ∷
    token.Keyword keyword.True ∷
    token.Keyword keyword.False ∷
    token.Absent absent.Global ∷
    token.Absent absent.Struct ∷
    token.Absent absent.Optional ∷
    token.Absent absent.Result ∷
    token.Absent absent.Real ∷
    token.Absent absent.Time ∷
    token.Absent absent.Interval ∷
    token.Absent absent.Addr ∷
    token.Absent absent.Port ∷
    token.Absent absent.Network ∷
    token.Absent absent.Iterator ∷
    token.Absent absent.Stream ∷
    token.Absent absent.Skip ∷
    token.Absent absent.Try ∷
    token.Absent absent.Catch ∷
    token.Absent absent.Unset ∷
    []

-- all kinds whose text begins with punctuation
abbrev pub signs : List TokenKind
signs =
    token.Punctuation punctuation.ColonColon ∷
    token.Punctuation punctuation.Colon ∷
    token.Punctuation punctuation.Semicolon ∷
    token.Punctuation punctuation.Comma ∷
    token.Punctuation punctuation.Dot ∷
    token.Punctuation punctuation.QuestionDot ∷
    token.Punctuation punctuation.Question ∷
    token.Punctuation punctuation.LeftParen ∷
    token.Punctuation punctuation.RightParen ∷
    token.Punctuation punctuation.LeftBracket ∷
    token.Punctuation punctuation.RightBracket ∷
    token.Punctuation punctuation.LeftBrace ∷
    token.Punctuation punctuation.RightBrace ∷
    token.Punctuation punctuation.Arrow ∷
    token.Punctuation punctuation.DotDot ∷
    token.Punctuation punctuation.DollarDollar ∷
    token.Punctuation punctuation.Equal ∷
    token.Punctuation punctuation.PlusEqual ∷
    token.Punctuation punctuation.MinusEqual ∷
    token.Punctuation punctuation.EqualEqual ∷
    token.Punctuation punctuation.NotEqual ∷
    token.Punctuation punctuation.Less ∷
    token.Punctuation punctuation.LessEqual ∷
    token.Punctuation punctuation.Greater ∷
    token.Punctuation punctuation.GreaterEqual ∷
    token.Punctuation punctuation.ShiftLeft ∷
    token.Punctuation punctuation.ShiftRight ∷
    token.Punctuation punctuation.Plus ∷
    token.Punctuation punctuation.Minus ∷
    token.Punctuation punctuation.Star ∷
    token.Punctuation punctuation.Slash ∷
    token.Punctuation punctuation.Percent ∷
    token.Punctuation punctuation.Ampersand ∷
    token.Punctuation punctuation.Bar ∷
    token.Punctuation punctuation.Caret ∷
    token.Punctuation punctuation.Tilde ∷
    token.Punctuation punctuation.Bang ∷
    token.Punctuation punctuation.AndAnd ∷
    token.Punctuation punctuation.OrOr ∷
    token.Punctuation punctuation.NotIn ∷
    token.Attribute attribute.Size ∷
    token.Attribute attribute.MaxSize ∷
    token.Attribute attribute.Eod ∷
    token.Attribute attribute.Until ∷
    token.Attribute attribute.UntilIncluding ∷
    token.Attribute attribute.While ∷
    token.Attribute attribute.Convert ∷
    token.Attribute attribute.Requires ∷
    token.Attribute attribute.Default ∷
    token.Attribute attribute.ByteOrder ∷
    token.Attribute attribute.BitOrder ∷
    token.Attribute attribute.ParseFrom ∷
    token.Attribute attribute.ParseAt ∷
    token.Attribute attribute.Try ∷
    token.Attribute attribute.Synchronize ∷
    token.Priority ∷
    token.Property property.ByteOrder ∷
    token.Property property.SpicyVersion ∷
    token.Property property.Filter ∷
    token.Property property.MimeType ∷
    token.Property property.Description ∷
    token.Hook hook.Init ∷
    token.Hook hook.Done ∷
    token.Hook hook.Error ∷
    token.Hook hook.Finally ∷
    token.Hook hook.Synced ∷
    token.Hook hook.Confirmed ∷
    token.Hook hook.Rejected ∷
    token.Hook hook.Gap ∷
    token.Hook hook.Skipped ∷
    token.Hook hook.Overlap ∷
    token.Hook hook.Undelivered ∷
    token.Absent absent.ChunkedAttribute ∷
    token.Absent absent.PortProperty ∷
    token.Absent absent.ContextProperty ∷
    token.Absent absent.SynchronizeAtProperty ∷
    token.Absent absent.SynchronizeAfterProperty ∷
    token.Absent absent.CxxIncludeProperty ∷
    token.Absent absent.SyncAdvanceHook ∷
    []
