-- What is left to write of a tree, token by token, and in how many steps.
use Rattle.std.specs.Prelude.{ℕ, ◌+◌, ◌*◌, List, [], ◌∷◌, ◌++◌, reverse}
use Rattle.json.specs.Token.{Token, end_array, end_object, key}
use Rattle.serde_json.specs.Data.{array, item, no_items, Members, no_members, member}
use Rattle.sp_events.specs.Tree.{TreeData, fields_of}
use Rattle.sp_events.specs.TreeSizes.{tree_size}
use Rattle.sp_json.specs.Values.{tree_json, with_fields}
use Rattle.sp_json.specs.inside.Tokens.{value_tokens}
use Rattle.sp_json.specs.declared.walk.Task.{Task}
use Rattle.sp_json.specs.declared.walk.Task.TheVariants.{Tree, Pair, Field, EndArray, EndObject}

-- the tokens of a tree, of an entry of a map, and of a field
abbrev pub tree_tokens : TreeData → List Token
tree_tokens t = value_tokens (tree_json t)

abbrev pub pair_tokens : TreeData × TreeData → List Token
pair_tokens p = value_tokens (array (item (tree_json p.0) (item (tree_json p.1) no_items)))

abbrev pub field_tokens : List ℕ × TreeData → List Token
field_tokens f = key f.0 ∷ tree_tokens f.1

-- those of each of a row
abbrev pub each_tokens : {X : Type 0} → (X → List Token) → List X → List Token
each_tokens one [] = []
each_tokens one (x ∷ xs) = one x ++ each_tokens one xs

abbrev pub task_tokens : Task → List Token
task_tokens (Tree t) = tree_tokens t.now
task_tokens (Pair k v) = pair_tokens (k.now, v.now)
task_tokens (Field name t) = field_tokens (name.now, t.now)
task_tokens EndArray = end_array ∷ []
task_tokens EndObject = end_object ∷ []

-- what is written where the last task is done first
abbrev pub pending : List Task → List Token
pending ts = each_tokens task_tokens (reverse ts)

-- how many steps a task takes at most, and how many all do
abbrev pub steps : Task → ℕ
steps (Tree t) = 3 * tree_size t.now + 2
steps (Pair k v) = 3 * (tree_size k.now + tree_size v.now) + 6
steps (Field name t) = 3 * tree_size t.now + 2
steps _ = 1

abbrev pub all_steps : List Task → ℕ
all_steps [] = 0
all_steps (t ∷ ts) = steps t + all_steps ts

abbrev pub work : List Task → ℕ
work ts = all_steps (reverse ts)

-- those of members, and of the fields of a unit in the order of their names
abbrev pub members_tokens : Members → List Token
members_tokens no_members = []
members_tokens (member name d ms) = (key name ∷ value_tokens d) ++ members_tokens ms

abbrev pub unit_tokens : List (List ℕ × TreeData) → List Token
unit_tokens fs = members_tokens (with_fields (fields_of fs) no_members)
