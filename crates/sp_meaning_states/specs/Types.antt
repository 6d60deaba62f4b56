-- What types say of values: the value with which one begins, the kind of its values, and the plain type to which a cast goes.
use Rattle.std.specs.Prelude.{ℕ, pos, neg_ℤ, Bool, false, List, [], replicate, slice_get, unwrap_or, if◌then◌else◌}
use Rattle.sp_numbers.specs.declared.width.Width.{Width}
use Rattle.sp_numbers.specs.declared.width.Width.TheVariants.{W8, W16, W32, W64}
use Rattle.sp_value.specs.Val.{Val, void, bool, uint, int, bytes, str, enum, bits, tuple, vector, set, map, place, Vals, no_vals, val, no_entries}
use Rattle.sp_operators.specs.declared.plain_type.PlainType.{PlainType}
use Rattle.sp_operators.specs.declared.plain_type.PlainType.TheVariants as plain
use Rattle.sp_methods.specs.Kinds.{Kind, Kinds, Void, Bools, Unsigned, Signed, Bytes, Text, Iterator, EnumOf, UnitOf, BitsOf, TupleOf, VectorOf, SetOf, MapOf, no_kinds, kind_and}
use Rattle.sp_types.specs.declared.words.Word.{Word}
use Rattle.sp_types.specs.declared.words.Word.TheVariants as word_is
use Rattle.sp_types.specs.declared.words.Maker.{Maker}
use Rattle.sp_types.specs.declared.words.Maker.TheVariants as maker_is
use Rattle.sp_types.specs.Types.{Ty, Tys, word, made, none, more}

-- how many bytes an integer has
abbrev pub width_bytes : Width → ℕ
width_bytes W8 = 1
width_bytes W16 = 2
width_bytes W32 = 4
width_bytes W64 = 8

-- the number of a literal as a value of its type
abbrev pub number_value : Ty → Bool → ℕ → Val
number_value (word (word_is.Uint w)) minus n = uint w n
number_value (word (word_is.Int w)) minus n = int w (if minus then neg_ℤ (pos n) else pos n)
number_value t minus n = void

-- the plain type to which a cast or a wider target goes
abbrev pub plain_type : Ty → PlainType
plain_type (word word_is.Bool) = plain.Bool
plain_type (word (word_is.Uint w)) = plain.Uint w
plain_type (word (word_is.Int w)) = plain.Int w
plain_type (word word_is.Bytes) = plain.Bytes
plain_type (word word_is.String) = plain.Str
plain_type (word (word_is.Enum k)) = plain.Enum k
plain_type (word (word_is.Bitfield k)) = plain.Bits k
plain_type (made maker_is.Tuple ts) = plain.Tuple
plain_type (made maker_is.Vector ts) = plain.Vector
plain_type (made maker_is.Set ts) = plain.Set
plain_type (made maker_is.Map ts) = plain.Map
plain_type t = plain.Void

-- over how many ranges each bitfield has
module _ (ranges : List ℕ) where
  abbrev pub ranges_of : ℕ → ℕ
  ranges_of k = unwrap_or (slice_get ranges k) 0

  -- the value with which a variable or a local of a type begins; a unit has none, so a local of a unit's type begins as void
  abbrev pub word_zero : Word → Val
  word_zero word_is.Bool = bool false
  word_zero (word_is.Uint w) = uint w 0
  word_zero (word_is.Int w) = int w (pos 0)
  word_zero word_is.Bytes = bytes []
  word_zero word_is.String = str []
  word_zero word_is.Iterator = place 0
  word_zero (word_is.Enum k) = enum k 0
  word_zero (word_is.Bitfield k) = bits k (replicate (ranges_of k) 0)
  word_zero w = void

  abbrev mutual
    pub zero_value : Ty → Val
    zero_value (word w) = word_zero w
    zero_value (made maker_is.Tuple ts) = tuple (zero_values ts)
    zero_value (made maker_is.Vector ts) = vector no_vals
    zero_value (made maker_is.Set ts) = set no_vals
    zero_value (made maker_is.Map ts) = map no_entries

    pub zero_values : Tys → Vals
    zero_values none = no_vals
    zero_values (more t ts) = val (zero_value t) (zero_values ts)

  abbrev pub kind_of_word : Word → Kind
  kind_of_word word_is.Bool = Bools
  kind_of_word (word_is.Uint w) = Unsigned
  kind_of_word (word_is.Int w) = Signed
  kind_of_word word_is.Bytes = Bytes
  kind_of_word word_is.String = Text
  kind_of_word word_is.Iterator = Iterator
  kind_of_word (word_is.Enum k) = EnumOf k
  kind_of_word (word_is.Bitfield k) = BitsOf k (ranges_of k)
  kind_of_word (word_is.Unit u) = UnitOf u
  kind_of_word w = Void

  abbrev pub first_of : Kinds → Kind
  first_of no_kinds = Void
  first_of (kind_and k ks) = k

  abbrev pub behind_first : Kinds → Kinds
  behind_first no_kinds = no_kinds
  behind_first (kind_and k ks) = ks

  abbrev pub kind_of_made : Maker → Kinds → Kind
  kind_of_made maker_is.Tuple ks = TupleOf ks
  kind_of_made maker_is.Vector ks = VectorOf (first_of ks)
  kind_of_made maker_is.Set ks = SetOf (first_of ks)
  kind_of_made maker_is.Map ks = MapOf (first_of ks) (first_of (behind_first ks))

  -- the kind of the values of a type
  abbrev mutual
    pub kind_of_type : Ty → Kind
    kind_of_type (word w) = kind_of_word w
    kind_of_type (made m ts) = kind_of_made m (kinds_of_types ts)

    pub kinds_of_types : Tys → Kinds
    kinds_of_types none = no_kinds
    kinds_of_types (more t ts) = kind_and (kind_of_type t) (kinds_of_types ts)
