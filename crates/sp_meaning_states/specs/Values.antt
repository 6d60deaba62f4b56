-- What items, members, keys and casts make of values.
use Rattle.std.specs.Prelude.{ℕ, nat_lt, List, [], ◌∷◌, length, Result, Ok, Err, ok_or, slice_get, if◌then◌else◌}
use Rattle.sp_base.specs.declared.kinds.PKind.{PKind}
use Rattle.sp_base.specs.declared.kinds.PKind.TheVariants.{Index, MissingKey}
use Rattle.sp_numbers.specs.declared.width.Width.TheVariants.{W8, W64}
use Rattle.sp_value.specs.Val.{Val, void, uint, bytes, bits, tuple, vector, set, map, vals_of, list_of, pairs_of, no_vals, no_entries}
use Rattle.sp_value.specs.Changes.{with_item, value_at, with_entry, with_member}
use Rattle.sp_operators.specs.Operators.{value_or_error, size_of}

-- the item of a vector, the member of a tuple and the range of a bitfield at a number, and the value of a map at a key
abbrev pub item_at : Val → Val → Result Val PKind
item_at (vector vs) (uint w n) = ok_or (slice_get (list_of vs) n) Index
item_at (tuple vs) (uint w n) = ok_or (slice_get (list_of vs) n) Index
item_at (bits k ns) (uint w n) = value_or_error (uint W64) (ok_or (slice_get ns n) Index)
item_at (map es) k = ok_or (value_at (map es) k) MissingKey
item_at v k = Ok void

-- a vector with another item at a number, which is in its range, or a map with a value at a key
abbrev pub with_at : Val → Val → Val → Result Val PKind
with_at (vector vs) (uint w n) x = if nat_lt n (length (list_of vs)) then Ok (with_item (vector vs) n x) else Err Index
with_at (map es) k x = Ok (with_entry (map es) k x)
with_at v k x = Ok v

abbrev pub size_value : Val → Val
size_value v = uint W64 (size_of v)

-- the set of these values
abbrev pub with_members : Val → List Val → Val
with_members s [] = s
with_members s (x ∷ xs) = with_members (with_member s x) xs

abbrev pub set_of : List Val → Val
set_of vs = with_members (set no_vals) vs

-- the map of these keys and values, which come in turn; of equal keys the later one counts
abbrev pub with_entries : Val → List Val → Val
with_entries m (k ∷ v ∷ rest) = with_entries (with_entry m k v) rest
with_entries m vs = m

abbrev pub map_of : List Val → Val
map_of vs = with_entries (map no_entries) vs

-- what a loop goes over: items, members, bytes, or tuples of a key and a value
abbrev pub byte_values : List ℕ → List Val
byte_values [] = []
byte_values (b ∷ bs) = uint W8 b ∷ byte_values bs

abbrev pub entry_values : List (Val × Val) → List Val
entry_values [] = []
entry_values (e ∷ es) = tuple (vals_of (e.0 ∷ e.1 ∷ [])) ∷ entry_values es

abbrev pub members_of : Val → List Val
members_of (vector vs) = list_of vs
members_of (set vs) = list_of vs
members_of (bytes b) = byte_values b
members_of (map es) = entry_values (pairs_of es)
members_of v = []
