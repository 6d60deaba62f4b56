-- What is known of a stack before any tree is built, and what the actions of a production make of it.
use Rattle.std.specs.Prelude.{ℕ, List, [], ◌∷◌, Bool, true, false, ◌||◌, ◌==◌, reverse, if◌then◌else◌, Option, Some, None}
use Rattle.sp_words.specs.declared.words.IntWord.TheVariants as integer
use Rattle.sp_words.specs.declared.words.AttributeName.TheVariants as attribute_name
use Rattle.sp_words.specs.declared.words.HookName.TheVariants as hook_name
use Rattle.sp_grammar.specs.declared.terminals.Terminal.TheVariants as terminal
use Rattle.sp_grammar.specs.Terminals.{terminal_number}
use Rattle.sp_ast.specs.declared.groups.Group.{Group}
use Rattle.sp_ast.specs.declared.groups.Sort.{Sort}
use Rattle.sp_ast.specs.declared.groups.Group.TheVariants.{Expressions as expressions}
use Rattle.sp_ast.specs.declared.groups.Sort.TheVariants.{One as one, Optional as optional, Rows as rows}
use Rattle.sp_ast.specs.Groups.{same_group, group}
use Rattle.sp_ast.specs.declared.groups.Slot.{Slot}
use Rattle.sp_ast.specs.declared.groups.Slot.TheVariants.{Part as part, Several as several}
use Rattle.sp_build.specs.Rules.{Leaf, always, by_name, by_string, by_bytes, by_regex, by_number, by_integer, by_hook_name, Rule, begins, leaves_out, takes, gathers, closes, closes_integer, closes_attribute, encloses, joins, wraps}

-- what stands at a place of the stack
pub data Shape : Type 0 where
  -- a tree has begun; it has begun at a token of this kind
  opens : Shape
  opens_at : ℕ → Shape
  -- a tree that may stand for such a part
  stands : Sort → Shape
  -- an absent part, and a row without trees
  left_out no_row : Shape
  -- any number of trees of a group
  many : Group → Shape

abbrev pub and_then : {A B : Type 0} → Option A → (A → Option B) → Option B
and_then None go = None
and_then (Some x) go = go x

-- a shape of which each tree is one of the group
abbrev pub is_all_of : Group → Shape → Bool
is_all_of g (stands (one h)) = same_group g h
is_all_of g (many h) = same_group g h
is_all_of g _ = false

-- what is left under all trees of a group
abbrev pub under : Group → List Shape → List Shape
under g [] = []
under g (x ∷ xs) = if is_all_of g x then under g xs else x ∷ xs

-- whether all that stands there may stand for such a part
abbrev pub suits : Sort → Shape → Bool
suits (one g) (stands (one h)) = same_group g h
suits (optional g) (stands (one h)) = same_group g h
suits (optional g) (stands (optional h)) = same_group g h
suits (optional g) left_out = true
suits (rows g) (stands (rows h)) = same_group g h
suits (rows g) no_row = true
suits _ _ = false

-- whether all that has the second shape has the first
abbrev pub covers : Shape → Shape → Bool
covers opens opens = true
covers opens (opens_at k) = true
covers (opens_at k) (opens_at e) = e == k
covers (stands sort) x = suits sort x
covers left_out left_out = true
covers no_row no_row = true
covers _ _ = false

-- what is left under one that has the wanted shape
abbrev pub under_one : Shape → List Shape → Option (List Shape)
under_one w [] = None
under_one w (x ∷ xs) = if covers w x then Some xs else None

abbrev pub under_wanted : Shape → List Shape → Option (List Shape)
under_wanted (many g) xs = Some (under g xs)
under_wanted w xs = under_one w xs

-- what is left under the wanted shapes, the last first, if they stand there
abbrev pub strip : List Shape → List Shape → Option (List Shape)
strip [] xs = Some xs
strip (w ∷ ws) xs = and_then (under_wanted w xs) (λ rest. strip ws rest)

-- what is left under the beginning of a tree
abbrev pub under_opening : List Shape → Option (List Shape)
under_opening (opens ∷ xs) = Some xs
under_opening (opens_at k ∷ xs) = Some xs
under_opening _ = None

-- the same, where it began at a token of this kind
abbrev pub under_opening_at : ℕ → List Shape → Option (List Shape)
under_opening_at k (opens_at e ∷ xs) = if e == k then Some xs else None
under_opening_at k _ = None

abbrev pub is_opening : List Shape → Bool
is_opening (opens ∷ xs) = true
is_opening (opens_at k ∷ xs) = true
is_opening _ = false

-- What is left under the part for a slot. The trees of a group are all those that stand since a tree began.
abbrev pub under_part : Slot → List Shape → Option (List Shape)
under_part (part sort) xs = under_one (stands sort) xs
under_part (several g) xs = if is_opening (under g xs) then Some (under g xs) else None

-- the same for all slots, the last slot first
abbrev pub under_parts : List Slot → List Shape → Option (List Shape)
under_parts [] xs = Some xs
under_parts (slot ∷ slots) xs = and_then (under_part slot xs) (λ rest. under_parts slots rest)

abbrev pub one_of : Group → Shape
one_of g = stands (one g)

abbrev pub put : Shape → List Shape → Option (List Shape)
put x xs = Some (x ∷ xs)

-- the beginning of a tree before a token of a kind, if it is known
abbrev pub opening : Option ℕ → Shape
opening None = opens
opening (Some k) = opens_at k

-- the group of what a token is built to
abbrev pub leaf_group : Leaf → Group
leaf_group (always form) = group form
leaf_group (by_name form) = group (form [])
leaf_group (by_string form) = group (form [])
leaf_group (by_bytes form) = group (form [])
leaf_group (by_regex form) = group (form [])
leaf_group (by_number form) = group (form 0)
leaf_group (by_integer form) = group (form integer.Uint8)
leaf_group (by_hook_name form) = group (form hook_name.Init)

-- whether a token of this kind tells what the leaf needs
abbrev pub is_told : Leaf → Option ℕ → Bool
is_told (always form) next = true
is_told leaf None = false
is_told (by_name form) (Some k) = k == terminal_number terminal.Id || k == terminal_number terminal.Skip
is_told (by_string form) (Some k) = k == terminal_number terminal.String
is_told (by_bytes form) (Some k) = k == terminal_number terminal.Bytes
is_told (by_regex form) (Some k) = k == terminal_number terminal.Regex
is_told (by_number form) (Some k) = k == terminal_number terminal.Number
is_told (by_integer form) (Some k) = k == terminal_number terminal.IntWord
is_told (by_hook_name form) (Some k) = k == terminal_number terminal.Hook

-- the group of which trees stand last
abbrev pub group_in : Shape → Option Group
group_in (stands (one g)) = Some g
group_in (many g) = Some g
group_in _ = None

abbrev pub rowed : Option Group → List Shape → Option (List Shape)
rowed None xs = and_then (under_opening xs) (λ rest. put no_row rest)
rowed (Some g) xs = and_then (under_opening (under g xs)) (λ rest. put (stands (rows g)) rest)

-- a tree of a group in place of its parts, since it began
abbrev pub closed_under : List Slot → (List Shape → Option (List Shape)) → Group → List Shape → Option (List Shape)
closed_under slots open_under g xs = and_then (under_parts (reverse slots) xs) (λ ys. and_then (open_under ys) (λ rest. put (one_of g) rest))

-- What a rule makes of a stack, before a token of a kind that may be known.
abbrev pub effect : Rule → Option ℕ → List Shape → Option (List Shape)
effect begins next xs = put (opening next) xs
effect leaves_out next xs = put left_out xs
effect (takes l) next xs = if is_told l next then put (one_of (leaf_group l)) xs else None
effect gathers next [] = None
effect gathers next (x ∷ xs) = rowed (group_in x) (x ∷ xs)
effect (closes slots form) next xs = closed_under slots under_opening (group form) xs
effect (closes_integer slots form) next xs = closed_under slots (under_opening_at (terminal_number terminal.IntWord)) (group (form integer.Uint8)) xs
effect (closes_attribute slots form) next xs = closed_under slots (under_opening_at (terminal_number terminal.Attribute)) (group (form attribute_name.Size)) xs
effect encloses next xs = closed_under (part (one expressions) ∷ []) under_opening expressions xs
effect (joins slots form) next xs = and_then (under_parts (reverse slots) xs) (λ rest. put (one_of (group form)) rest)
effect (wraps g form) next xs = and_then (under_part (part (one g)) xs) (λ rest. put (one_of (group form)) rest)
