-- What stands inside types.
use Rattle.std.specs.Prelude.{◌≡◌, Bool, true, false, ◌&&◌, List, [], ◌∷◌, ◌++◌, IsTrue, refl}
use Rattle.std.specs.List.{list_all}
use Rattle.sp_types.specs.declared.words.Word.TheVariants as word_is
use Rattle.sp_types.specs.declared.words.Maker.{Maker}
use Rattle.sp_types.specs.declared.words.Maker.TheVariants as maker_is
use Rattle.sp_types.specs.Types.{Ty, Tys, word, made, is_known, is_key}
use Rattle.sp_types.specs.Types as types
use Rattle.sp_law_lists.specs.known_types.Full.{has_value, is_full}

-- all types that stand inside a type, at any depth
abbrev mutual
  pub inside : Ty → List Ty
  inside (word w) = []
  inside (made m ts) = all_inside ts

  pub all_inside : Tys → List Ty
  all_inside types.none = []
  all_inside (types.more t ts) = t ∷ (inside t ++ all_inside ts)

-- the type of the elements of a set, and of the keys of a map
abbrev pub own_keys : Maker → Tys → List Ty
own_keys maker_is.Set (types.more t ts) = t ∷ []
own_keys maker_is.Map (types.more k ts) = k ∷ []
own_keys m ts = []

-- the same of all sets and maps in a type
abbrev mutual
  pub keys_in : Ty → List Ty
  keys_in (word w) = []
  keys_in (made m ts) = own_keys m ts ++ all_keys_in ts

  pub all_keys_in : Tys → List Ty
  all_keys_in types.none = []
  all_keys_in (types.more t ts) = keys_in t ++ all_keys_in ts

abbrev pub may_stand_inside : Ty → Bool
may_stand_inside t = is_known t && has_value t

-- Each type that stands inside a full one is known and has values, and each element of a set and each key of a map is of a type of
-- keys.
abbrev pub PartsMayStand : Type 0
PartsMayStand = (t : Ty) → IsTrue (is_full t) → IsTrue (list_all may_stand_inside (inside t)) × IsTrue (list_all is_key (keys_in t))

-- a set in a tuple, and a vector of it
abbrev bytes_set : Ty
bytes_set = made maker_is.Set (types.more (word word_is.Bytes) types.none)

in_tuple : inside (made maker_is.Tuple (types.more bytes_set (types.more (word word_is.Bool) types.none))) ≡ bytes_set ∷ (word word_is.Bytes ∷ (word word_is.Bool ∷ []))
in_tuple = refl

keys_of_vector : keys_in (made maker_is.Vector (types.more bytes_set types.none)) ≡ word word_is.Bytes ∷ []
keys_of_vector = refl
