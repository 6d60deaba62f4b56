-- Trees by their places in a list. Two places name no tree of the list: that of a part that is left out, and that of parts
-- in a row of which there are none.
use Rattle.std.specs.Prelude.{ℕ, ◌<◌, ◌≤◌, ◌==◌, ◌⊎◌, List, [], ◌∷◌, map, length, if◌then◌else◌, ◌≡◌, true}
use Rattle.std.proofs.Common.{get_or}
use Rattle.sp_ast.specs.Trees.{Tree, absent, row, none}
use Rattle.sp_ast.specs.Heights.{height, most_levels}
use Rattle.sp_ast.specs.Slots.{is_formed}

-- the place of a part that is left out, and that of an empty row
abbrev pub left_out : ℕ
left_out = 4294967295

abbrev pub no_parts : ℕ
no_parts = 4294967294

-- the tree at a place
abbrev pub tree_at : List Tree → ℕ → Tree
tree_at ts at = if at == no_parts then row none else get_or ts at absent

-- the trees at places
abbrev pub trees_at : List Tree → List ℕ → List Tree
trees_at ts places = map (tree_at ts) places

-- a place that names a tree of a list, whatever follows it: a row, or one of the two that name none
abbrev pub IsPlace : List Tree → ℕ → Type 0
IsPlace ts at = (at < length ts) ⊎ (no_parts ≤ at)

abbrev pub ArePlaces : List Tree → List ℕ → Type 0
ArePlaces ts [] = Unit {0}
ArePlaces ts (at ∷ places) = IsPlace ts at × ArePlaces ts places

-- all trees of a list are low and have the parts of their alternatives
abbrev pub AreSound : List Tree → Type 0
AreSound [] = Unit {0}
AreSound (t ∷ ts) = (height t ≤ most_levels) × (is_formed t ≡ true) × AreSound ts
