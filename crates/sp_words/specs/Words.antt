-- The words of integer types, and the names of attributes, properties and hooks.
use Rattle.std.specs.Prelude.{ℕ, List, Bool, true, false, codes}
use Rattle.sp_words.specs.declared.words.IntWord.{IntWord}
use Rattle.sp_words.specs.declared.words.IntWord.TheVariants as int
use Rattle.sp_words.specs.declared.words.AttributeName.{AttributeName}
use Rattle.sp_words.specs.declared.words.AttributeName.TheVariants as attribute
use Rattle.sp_words.specs.declared.words.Property.{Property}
use Rattle.sp_words.specs.declared.words.Property.TheVariants as property
use Rattle.sp_words.specs.declared.words.HookName.{HookName}
use Rattle.sp_words.specs.declared.words.HookName.TheVariants as hook

-- how many bits its values have
abbrev pub width : IntWord → ℕ
width int.Uint8 = 8
width int.Uint16 = 16
width int.Uint32 = 32
width int.Uint64 = 64
width int.Int8 = 8
width int.Int16 = 16
width int.Int32 = 32
width int.Int64 = 64

-- whether its values have a sign
abbrev pub is_signed : IntWord → Bool
is_signed int.Uint8 = false
is_signed int.Uint16 = false
is_signed int.Uint32 = false
is_signed int.Uint64 = false
is_signed int.Int8 = true
is_signed int.Int16 = true
is_signed int.Int32 = true
is_signed int.Int64 = true

-- how the word of an integer type is written
abbrev pub integer_text : IntWord → List ℕ
integer_text int.Uint8 = codes "uint8"
integer_text int.Uint16 = codes "uint16"
integer_text int.Uint32 = codes "uint32"
integer_text int.Uint64 = codes "uint64"
integer_text int.Int8 = codes "int8"
integer_text int.Int16 = codes "int16"
integer_text int.Int32 = codes "int32"
integer_text int.Int64 = codes "int64"

-- how the name of an attribute is written
abbrev pub attribute_text : AttributeName → List ℕ
attribute_text attribute.Size = codes "&size"
attribute_text attribute.MaxSize = codes "&max-size"
attribute_text attribute.Eod = codes "&eod"
attribute_text attribute.Until = codes "&until"
attribute_text attribute.UntilIncluding = codes "&until-including"
attribute_text attribute.While = codes "&while"
attribute_text attribute.Convert = codes "&convert"
attribute_text attribute.Requires = codes "&requires"
attribute_text attribute.Default = codes "&default"
attribute_text attribute.ByteOrder = codes "&byte-order"
attribute_text attribute.BitOrder = codes "&bit-order"
attribute_text attribute.ParseFrom = codes "&parse-from"
attribute_text attribute.ParseAt = codes "&parse-at"
attribute_text attribute.Try = codes "&try"
attribute_text attribute.Synchronize = codes "&synchronize"

-- how the name of a property is written
abbrev pub property_text : Property → List ℕ
property_text property.ByteOrder = codes "%byte-order"
property_text property.SpicyVersion = codes "%spicy-version"
property_text property.Filter = codes "%filter"
property_text property.MimeType = codes "%mime-type"
property_text property.Description = codes "%description"

-- how the name of a hook is written
abbrev pub hook_text : HookName → List ℕ
hook_text hook.Init = codes "%init"
hook_text hook.Done = codes "%done"
hook_text hook.Error = codes "%error"
hook_text hook.Finally = codes "%finally"
hook_text hook.Synced = codes "%synced"
hook_text hook.Confirmed = codes "%confirmed"
hook_text hook.Rejected = codes "%rejected"
hook_text hook.Gap = codes "%gap"
hook_text hook.Skipped = codes "%skipped"
hook_text hook.Overlap = codes "%overlap"
hook_text hook.Undelivered = codes "%undelivered"
