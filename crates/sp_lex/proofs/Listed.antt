-- Each kind that has a text of its own stands once in the lists.
use Rattle.std.proofs.Common.{◌<◌, length, refl, arith}
use Rattle.sp_lex.specs.Listed.{IsListedOnce}
use Rattle.sp_lex.specs.Spellings.{spelling}
use Rattle.sp_words.specs.declared.words.IntWord.{IntWord}
use Rattle.sp_words.specs.declared.words.IntWord.TheVariants as int
use Rattle.sp_words.specs.declared.words.AttributeName.{AttributeName}
use Rattle.sp_words.specs.declared.words.AttributeName.TheVariants as attribute
use Rattle.sp_words.specs.declared.words.HookName.{HookName}
use Rattle.sp_words.specs.declared.words.HookName.TheVariants as hook
use Rattle.sp_lex.specs.declared.kinds.Absent.{Absent}
use Rattle.sp_lex.specs.declared.kinds.Absent.TheVariants as absent
use Rattle.sp_words.specs.declared.keywords.Keyword.{Keyword}
use Rattle.sp_words.specs.declared.keywords.Keyword.TheVariants as keyword
use Rattle.sp_words.specs.declared.punctuation.Punctuation.{Punctuation}
use Rattle.sp_words.specs.declared.punctuation.Punctuation.TheVariants as punctuation
use Rattle.sp_words.specs.declared.words.Property.{Property}
use Rattle.sp_words.specs.declared.words.Property.TheVariants as property
use Rattle.sp_lex.specs.declared.kinds.TokenKind.{TokenKind}
use Rattle.sp_lex.specs.declared.kinds.TokenKind.TheVariants as token

keyword_once : (k : Keyword) → IsListedOnce (token.Keyword k)
keyword_once keyword.Module = refl
keyword_once _ = refl

integer_once : (i : IntWord) → IsListedOnce (token.Integer i)
integer_once int.Uint8 = refl
integer_once _ = refl

punctuation_once : (m : Punctuation) → IsListedOnce (token.Punctuation m)
punctuation_once punctuation.ColonColon = refl
punctuation_once _ = refl

attribute_once : (a : AttributeName) → IsListedOnce (token.Attribute a)
attribute_once attribute.Size = refl
attribute_once _ = refl

property_once : (p : Property) → IsListedOnce (token.Property p)
property_once property.ByteOrder = refl
property_once _ = refl

hook_once : (h : HookName) → IsListedOnce (token.Hook h)
hook_once hook.Init = refl
hook_once _ = refl

absent_once : (a : Absent) → IsListedOnce (token.Absent a)
absent_once absent.Global = refl
absent_once _ = refl

pub listed_once : (kind : TokenKind) → 0 < length (spelling kind) → IsListedOnce kind
listed_once (token.Keyword k) some = keyword_once k
listed_once (token.Integer i) some = integer_once i
listed_once (token.Punctuation m) some = punctuation_once m
listed_once (token.Attribute a) some = attribute_once a
listed_once token.Priority some = refl
listed_once (token.Property p) some = property_once p
listed_once (token.Hook h) some = hook_once h
listed_once (token.Absent a) some = absent_once a
listed_once _ some = absurd (omega arith)
