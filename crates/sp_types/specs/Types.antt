-- The types of the language, apart from memory.
use Rattle.std.specs.Prelude.{ℕ, ◌+◌, ◌==◌, Bool, true, false, ◌&&◌, ◌||◌, not, nat_lt, List, [], ◌∷◌}
use Rattle.sp_numbers.specs.declared.width.Width.{Width}
use Rattle.sp_numbers.specs.declared.width.Width.TheVariants as width
use Rattle.sp_numbers.specs.Numbers.{width_bits}
use Rattle.sp_types.specs.declared.words.Word.{Word}
use Rattle.sp_types.specs.declared.words.Word.TheVariants as word_is
use Rattle.sp_types.specs.declared.words.Maker.{Maker}
use Rattle.sp_types.specs.declared.words.Maker.TheVariants as maker_is

-- A type: a word, or what is made of types. The parts of a tuple are its members; a vector and a set have one part, a map
-- has two.
mutual
  pub data Ty : Type 0 where
    word : Word → Ty
    made : Maker → Tys → Ty

  pub data Tys : Type 0 where
    none : Tys
    more : Ty → Tys → Tys

-- the types of a list
abbrev pub tys : List Ty → Tys
tys [] = none
tys (t ∷ ts) = more t (tys ts)

-- how many parts a type has, itself among them, where it is written out
abbrev mutual
  pub written : Ty → ℕ
  written (word w) = 1
  written (made m ts) = all_written ts + 1

  pub all_written : Tys → ℕ
  all_written none = 0
  all_written (more t ts) = written t + all_written ts

-- The most parts of a type that is written out: aliases can build towers of types by name, and whatever is compared, printed
-- or dropped has to stay short.
abbrev pub most_written : ℕ
most_written = 4096

abbrev pub is_known_word : Word → Bool
is_known_word word_is.Unknown = false
is_known_word _ = true

-- a type in which nothing is unknown: unknown is the type of what breaks a rule
abbrev mutual
  pub is_known : Ty → Bool
  is_known (word w) = is_known_word w
  is_known (made m ts) = are_known ts

  pub are_known : Tys → Bool
  are_known none = true
  are_known (more t ts) = is_known t && are_known ts

-- words and makers by numbers
abbrev pub width_number : Width → ℕ
width_number width.W8 = 0
width_number width.W16 = 1
width_number width.W32 = 2
width_number width.W64 = 3

abbrev pub word_number : Word → ℕ
word_number word_is.Unknown = 0
word_number word_is.Bool = 1
word_number (word_is.Uint _) = 2
word_number (word_is.Int _) = 3
word_number word_is.Bytes = 4
word_number word_is.String = 5
word_number word_is.Void = 6
word_number word_is.Regex = 7
word_number word_is.Sink = 8
word_number word_is.Iterator = 9
word_number word_is.New = 10
word_number word_is.Decoder = 11
word_number (word_is.Enum _) = 12
word_number (word_is.Bitfield _) = 13
word_number (word_is.Unit _) = 14

-- what a word tells beside its kind: a width, or the number of a declaration
abbrev pub told_number : Word → ℕ
told_number (word_is.Uint w) = width_number w
told_number (word_is.Int w) = width_number w
told_number (word_is.Enum n) = n
told_number (word_is.Bitfield n) = n
told_number (word_is.Unit n) = n
told_number _ = 0

abbrev pub same_word : Word → Word → Bool
same_word v w = word_number v == word_number w && told_number v == told_number w

abbrev pub maker_number : Maker → ℕ
maker_number maker_is.Tuple = 0
maker_number maker_is.Vector = 1
maker_number maker_is.Set = 2
maker_number maker_is.Map = 3

-- the same type, by its parts
abbrev mutual
  pub same : Ty → Ty → Bool
  same (word v) (word w) = same_word v w
  same (made m ts) (made n us) = maker_number m == maker_number n && all_same ts us
  same _ _ = false

  pub all_same : Tys → Tys → Bool
  all_same none none = true
  all_same (more t ts) (more u us) = same t u && all_same ts us
  all_same _ _ = false

-- plain types, whose values can be compared, kept in variables and told: all but units, sinks, iterators, regular
-- expressions and void, also inside others
abbrev pub is_plain_word : Word → Bool
is_plain_word word_is.Unknown = true
is_plain_word word_is.Bool = true
is_plain_word (word_is.Uint _) = true
is_plain_word (word_is.Int _) = true
is_plain_word word_is.Bytes = true
is_plain_word word_is.String = true
is_plain_word (word_is.Enum _) = true
is_plain_word (word_is.Bitfield _) = true
is_plain_word _ = false

abbrev mutual
  pub is_plain : Ty → Bool
  is_plain (word w) = is_plain_word w
  is_plain (made m ts) = are_plain ts

  pub are_plain : Tys → Bool
  are_plain none = true
  are_plain (more t ts) = is_plain t && are_plain ts

-- types of keys of sets and maps
abbrev pub is_key_word : Word → Bool
is_key_word word_is.Unknown = true
is_key_word word_is.Bool = true
is_key_word (word_is.Uint _) = true
is_key_word (word_is.Int _) = true
is_key_word word_is.Bytes = true
is_key_word word_is.String = true
is_key_word (word_is.Enum _) = true
is_key_word _ = false

abbrev pub is_key : Ty → Bool
is_key (word w) = is_key_word w
is_key (made m ts) = false

-- whether an integer type holds all values of another: one of the same signedness that is as wide
abbrev pub holds : Word → Word → Bool
holds (word_is.Uint v) (word_is.Uint w) = not (nat_lt (width_bits v) (width_bits w))
holds (word_is.Int v) (word_is.Int w) = not (nat_lt (width_bits v) (width_bits w))
holds _ _ = false

abbrev pub widens : Ty → Ty → Bool
widens (word v) (word w) = holds w v
widens _ _ = false

-- Whether a value of a type goes to a target of another: the same one, or a wider integer type of the same signedness. Of
-- what is unknown nothing is asked.
abbrev pub goes : Ty → Ty → Bool
goes from to = not (is_known from && is_known to) || same from to || widens from to

-- the second where it is wider
abbrev pub wider_of : Word → Word → Bool → Word
wider_of v w true = w
wider_of v w false = v

-- the wider of two integer types of one signedness; of other types there is none
abbrev pub wider : Word → Word → Word
wider (word_is.Uint v) (word_is.Uint w) = wider_of (word_is.Uint v) (word_is.Uint w) (nat_lt (width_bits v) (width_bits w))
wider (word_is.Int v) (word_is.Int w) = wider_of (word_is.Int v) (word_is.Int w) (nat_lt (width_bits v) (width_bits w))
wider _ _ = word_is.Unknown
