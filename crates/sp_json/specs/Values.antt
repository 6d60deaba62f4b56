-- A told value as JSON (RFC 8259).
use Rattle.std.specs.Prelude.{ℕ, List, [], ◌∷◌, encode_utf8_all}
use Rattle.serde_json.specs.Data.{Data, null, boolean, number, unsigned, string, array, object, Items, no_items, item, Members, no_members, put}
use Rattle.serde_json.specs.Find.{of_integer}
use Rattle.sp_events.specs.Tree.{TreeData, void, bool, uint, int, bytes, str, label, unlisted, bits, tuple, vector, set, map, unit, place, TreesData, no_trees, tree, PairsData, no_pairs, pair, FieldsData, no_fields, field}

-- bytes are a string with one character from U+0000 to U+00FF for each
abbrev pub bytes_json : List ℕ → Data
bytes_json bs = string (encode_utf8_all bs)

-- these members, and the ranges of a bitfield at their names
abbrev pub with_ranges : List (List ℕ × ℕ) → Members → Members
with_ranges [] ms = ms
with_ranges (r ∷ rs) ms = with_ranges rs (put r.0 (number (unsigned r.1)) ms)

-- void is null; bitfields and units are objects, tuples, vectors and sets arrays, and a map is an array of its entries; a label is
-- its name, and what has none is its number
abbrev mutual
  pub tree_json : TreeData → Data
  tree_json void = null
  tree_json (bool b) = boolean b
  tree_json (uint n) = number (unsigned n)
  tree_json (int n) = number (of_integer n)
  tree_json (bytes bs) = bytes_json bs
  tree_json (str s) = string s
  tree_json (label name) = string name
  tree_json (unlisted n) = number (unsigned n)
  tree_json (bits ranges) = object (with_ranges ranges no_members)
  tree_json (tuple members) = array (trees_json members)
  tree_json (vector items) = array (trees_json items)
  tree_json (set members) = array (trees_json members)
  tree_json (map pairs) = array (pairs_json pairs)
  tree_json (unit fields) = object (with_fields fields no_members)
  tree_json (place at) = number (unsigned at)

  pub trees_json : TreesData → Items
  trees_json no_trees = no_items
  trees_json (tree t ts) = item (tree_json t) (trees_json ts)

  -- an entry is an array of its key and its value
  pub pairs_json : PairsData → Items
  pairs_json no_pairs = no_items
  pairs_json (pair k v ps) = item (array (item (tree_json k) (item (tree_json v) no_items))) (pairs_json ps)

  -- these members, and the fields at their names
  pub with_fields : FieldsData → Members → Members
  with_fields no_fields ms = ms
  with_fields (field name t fields) ms = with_fields fields (put name (tree_json t) ms)
