-- The parts of a value, where it is of their kind.
use Rattle.std.specs.Prelude.{ℕ, ℤ, Bool, List, length, Option, None, Some}
use Rattle.sp_numbers.specs.declared.width.Width.{Width}
use Rattle.sp_value.specs.Val.{Val, bool, uint, int, bytes, str, enum, bits, tuple, vector, set, map, unit, place, list_of, pairs_of}

abbrev pub bool_in : Val → Option Bool
bool_in (bool b) = Some b
bool_in _ = None

-- the number of an unsigned integer, and of a signed one
abbrev pub number_in : Val → Option ℕ
number_in (uint w n) = Some n
number_in _ = None

abbrev pub signed_in : Val → Option ℤ
signed_in (int w n) = Some n
signed_in _ = None

-- the width of an integer
abbrev pub width_in : Val → Option Width
width_in (uint w n) = Some w
width_in (int w n) = Some w
width_in _ = None

abbrev pub bytes_in : Val → Option (List ℕ)
bytes_in (bytes b) = Some b
bytes_in _ = None

-- the UTF-8 bytes of a text
abbrev pub text_in : Val → Option (List ℕ)
text_in (str b) = Some b
text_in _ = None

-- the number of the type, and the label's number
abbrev pub label_in : Val → Option (ℕ × ℕ)
label_in (enum k n) = Some (k, n)
label_in _ = None

-- the number of the type, and the numbers of the named ranges
abbrev pub bits_in : Val → Option (ℕ × List ℕ)
bits_in (bits k n) = Some (k, n)
bits_in _ = None

-- the members of a tuple, or the items of a vector
abbrev pub items_in : Val → Option (List Val)
items_in (tuple vs) = Some (list_of vs)
items_in (vector vs) = Some (list_of vs)
items_in _ = None

-- the members of a set
abbrev pub members_in : Val → Option (List Val)
members_in (set vs) = Some (list_of vs)
members_in _ = None

-- the keys and values of a map
abbrev pub entries_in : Val → Option (List (Val × Val))
entries_in (map es) = Some (pairs_of es)
entries_in _ = None

abbrev pub instance_in : Val → Option ℕ
instance_in (unit n) = Some n
instance_in _ = None

abbrev pub place_in : Val → Option ℕ
place_in (place n) = Some n
place_in _ = None

-- how many bytes, members or entries
abbrev pub size_in : Val → Option ℕ
size_in (bytes b) = Some (length b)
size_in (tuple vs) = Some (length (list_of vs))
size_in (vector vs) = Some (length (list_of vs))
size_in (set vs) = Some (length (list_of vs))
size_in (map es) = Some (length (pairs_of es))
size_in _ = None
