-- The types that are words of integers.
use Rattle.sp_words.specs.declared.words.IntWord.{IntWord}
use Rattle.sp_words.specs.declared.words.IntWord.TheVariants as int
use Rattle.sp_numbers.specs.declared.width.Width.TheVariants as width
use Rattle.sp_types.specs.declared.words.Word.{Word}
use Rattle.sp_types.specs.declared.words.Word.TheVariants as word_is

-- the type that is a word of integers
abbrev pub int_word : IntWord → Word
int_word int.Uint8 = word_is.Uint width.W8
int_word int.Uint16 = word_is.Uint width.W16
int_word int.Uint32 = word_is.Uint width.W32
int_word int.Uint64 = word_is.Uint width.W64
int_word int.Int8 = word_is.Int width.W8
int_word int.Int16 = word_is.Int width.W16
int_word int.Int32 = word_is.Int width.W32
int_word int.Int64 = word_is.Int width.W64
