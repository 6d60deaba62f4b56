-- What a change of a value makes of it.
use Rattle.std.specs.Prelude.{ℕ, Bool, false, List, [], ◌∷◌, ◌++◌, Option, None, slice_set, is_some}
use Rattle.std.specs.Option.{option_map, option_map_or}
use Rattle.sp_value.specs.Val.{Val, bytes, str, tuple, vector, set, map, vals_of, list_of, entries_of, pairs_of}
use Rattle.sp_value.specs.Ascending.{own_key, entry_key, found, with_key, without}

-- the kinds of values that can be changed
abbrev pub IsBytes : Val → Type 0
IsBytes (bytes b) = Unit {0}
IsBytes _ = ⊥

abbrev pub IsText : Val → Type 0
IsText (str b) = Unit {0}
IsText _ = ⊥

abbrev pub IsVector : Val → Type 0
IsVector (vector vs) = Unit {0}
IsVector _ = ⊥

abbrev pub IsSequence : Val → Type 0
IsSequence (tuple vs) = Unit {0}
IsSequence (vector vs) = Unit {0}
IsSequence _ = ⊥

abbrev pub IsSet : Val → Type 0
IsSet (set vs) = Unit {0}
IsSet _ = ⊥

abbrev pub IsMap : Val → Type 0
IsMap (map es) = Unit {0}
IsMap _ = ⊥

abbrev pub IsKeyed : Val → Type 0
IsKeyed (set vs) = Unit {0}
IsKeyed (map es) = Unit {0}
IsKeyed _ = ⊥

-- the members of a tuple, or the items of a vector
abbrev pub items_of : Val → List Val
items_of (tuple vs) = list_of vs
items_of (vector vs) = list_of vs
items_of _ = []

-- the bytes, or the text, with more behind
abbrev pub with_bytes : Val → List ℕ → Val
with_bytes (bytes b) more = bytes (b ++ more)
with_bytes v more = v

abbrev pub with_text : Val → List ℕ → Val
with_text (str b) more = str (b ++ more)
with_text v more = v

-- the vector with x behind its items
abbrev pub with_last : Val → Val → Val
with_last (vector vs) x = vector (vals_of (list_of vs ++ x ∷ []))
with_last v x = v

-- the tuple or the vector with x as its item i, counted from 0
abbrev pub with_item : Val → ℕ → Val → Val
with_item (tuple vs) i x = tuple (vals_of (slice_set (list_of vs) i x))
with_item (vector vs) i x = vector (vals_of (slice_set (list_of vs) i x))
with_item v i x = v

-- the value that a map has at a key
abbrev pub value_at : Val → Val → Option Val
value_at (map es) k = option_map (λ e. e.1) (found entry_key k (pairs_of es))
value_at _ k = None

-- whether a key is in a set or a map
abbrev pub has_key : Val → Val → Bool
has_key (set vs) k = is_some (found own_key k (list_of vs))
has_key (map es) k = is_some (found entry_key k (pairs_of es))
has_key _ k = false

-- the map with the value v at the key k, whatever it had there
abbrev pub with_entry : Val → Val → Val → Val
with_entry (map es) k v = map (entries_of (with_key entry_key (k, v) (pairs_of es)))
with_entry m k v = m

-- the entries with the value v at the first key that is k, where there is one
abbrev pub with_value_in : List (Val × Val) → Val → Val → List (Val × Val)
with_value_in es k v = option_map_or (λ e. with_key entry_key (e.0, v) es) (found entry_key k es) es

-- the map with the value v at its key that is k, and the map itself where it has none
abbrev pub with_value : Val → Val → Val → Val
with_value (map es) k v = map (entries_of (with_value_in (pairs_of es) k v))
with_value m k v = m

-- the set with the key
abbrev pub with_member : Val → Val → Val
with_member (set vs) k = set (vals_of (with_key own_key k (list_of vs)))
with_member v k = v

-- the set or the map without the key
abbrev pub without_key : Val → Val → Val
without_key (set vs) k = set (vals_of (without own_key k (list_of vs)))
without_key (map es) k = map (entries_of (without entry_key k (pairs_of es)))
without_key v k = v
