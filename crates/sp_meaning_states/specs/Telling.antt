-- How a value is told: with its units written out, and the names of labels, ranges and members.
use Rattle.std.specs.Prelude.{ℕ, zero, suc, ◌==◌, List, [], ◌∷◌, ◌++◌, length, Option, Some, None, slice_get, unwrap_or, if◌then◌else◌}
use Rattle.sp_events.specs.Tree.{TreeData, TreesData, PairsData, no_trees, tree, no_pairs, pair, fields_of}
use Rattle.sp_events.specs.Tree as told
use Rattle.sp_value.specs.Val.{Val, void, bool, uint, int, bytes, str, enum, bits, tuple, vector, set, map, unit, place, Vals, no_vals, val, Entries, no_entries, entry}
use Rattle.sp_meaning_states.specs.States.{Instance, no_instance}
use Rattle.sp_meaning_states.specs.Scopes.{is_among}

-- the names of a list of modules: of the members of each unit, of the labels of each enum with their numbers, and of the ranges of
-- each bitfield
pub record Names : Type 0 where
  pub members : List (List (List ℕ))
  pub labels : List (List (ℕ × List ℕ))
  pub ranges : List (List (List ℕ))

-- a label by its number, or the number where no label has it
abbrev pub label_tree : ℕ → List (ℕ × List ℕ) → TreeData
label_tree n [] = told.unlisted n
label_tree n (l ∷ ls) = if l.0 == n then told.label l.1 else label_tree n ls

-- the ranges of a bitfield by name
abbrev pub named_ranges : List (List ℕ) → List ℕ → List (List ℕ × ℕ)
named_ranges (x ∷ xs) (n ∷ ns) = (x, n) ∷ named_ranges xs ns
named_ranges xs ns = []

abbrev pub names_at : {A : Type 0} → List (List A) → ℕ → List A
names_at rows n = unwrap_or (slice_get rows n) []

module _ (names : Names) where
  module _ (unit_tree : ℕ → TreeData) where
    abbrev mutual
      -- a value, where this is how units are told
      pub tree_with : Val → TreeData
      tree_with void = told.void
      tree_with (bool b) = told.bool b
      tree_with (uint w n) = told.uint n
      tree_with (int w n) = told.int n
      tree_with (bytes b) = told.bytes b
      tree_with (str b) = told.str b
      tree_with (enum k n) = label_tree n (names_at names.labels k)
      tree_with (bits k ns) = told.bits (named_ranges (names_at names.ranges k) ns)
      tree_with (tuple vs) = told.tuple (trees_with vs)
      tree_with (vector vs) = told.vector (trees_with vs)
      tree_with (set vs) = told.set (trees_with vs)
      tree_with (map es) = told.map (pairs_with es)
      tree_with (unit n) = unit_tree n
      tree_with (place n) = told.place n

      pub trees_with : Vals → TreesData
      trees_with no_vals = no_trees
      trees_with (val v vs) = tree (tree_with v) (trees_with vs)

      pub pairs_with : Entries → PairsData
      pairs_with no_entries = no_pairs
      pairs_with (entry k v es) = pair (tree_with k) (tree_with v) (pairs_with es)

    -- a member that is set, and isn't void, by name
    abbrev pub member_tree : List ℕ → Option Val → List (List ℕ × TreeData)
    member_tree x None = []
    member_tree x (Some void) = []
    member_tree x (Some v) = (x, tree_with v) ∷ []

    abbrev pub member_trees : List (List ℕ) → List (Option Val) → List (List ℕ × TreeData)
    member_trees (x ∷ xs) (o ∷ os) = member_tree x o ++ member_trees xs os
    member_trees xs os = []

  module _ (instances : List Instance) where
    abbrev pub fields_tree : (ℕ → TreeData) → Instance → TreeData
    fields_tree unit_tree x = told.unit (fields_of (member_trees unit_tree (names_at names.members x.unit) x.members))

    -- A unit with its members written out; one that is met again inside itself has none there. The first number bounds how many
    -- units stand inside one another: those that are open are different instances.
    abbrev pub unit_tree : ℕ → List ℕ → ℕ → TreeData
    unit_tree zero round n = told.unit (fields_of [])
    unit_tree (suc more) round n =
        if is_among n round
        then told.unit (fields_of [])
        else fields_tree (unit_tree more (n ∷ round)) (unwrap_or (slice_get instances n) no_instance)

    -- a value as it is told where these are the instances
    abbrev pub value_tree : Val → TreeData
    value_tree v = tree_with (unit_tree (suc (length instances)) []) v

    abbrev pub value_trees : List Val → List TreeData
    value_trees [] = []
    value_trees (v ∷ vs) = value_tree v ∷ value_trees vs
