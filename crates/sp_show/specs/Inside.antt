-- How values are told inside the units that are open.
use Rattle.std.specs.Prelude.{◌≡◌, ℕ, suc, ◌-◌, ◌<◌, Bool, true, false, List, [], ◌∷◌, length, Option, Some, None}
use Rattle.sp_events.specs.Tree.{TreeData}
use Rattle.sp_value.specs.Val.{Val, void, tuple, vector, set, map, unit}
use Rattle.sp_meaning_states.specs.States.{Instance}
use Rattle.sp_meaning_states.specs.Scopes.{is_among}
use Rattle.sp_meaning_states.specs.Telling.{Names, tree_with, unit_tree}

module _ (instances : List Instance) where
  -- numbers of instances, none of them twice, as of units that are open, the innermost first
  abbrev pub AreOpen : List ℕ → Type 0
  AreOpen [] = Unit {0}
  AreOpen (n ∷ ns) = (n < length instances) × (is_among n ns ≡ false) × AreOpen ns

module _ (names : Names) (instances : List Instance) where
  -- a unit where the units of these instances are open, the innermost first
  abbrev pub unit_inside : List ℕ → ℕ → TreeData
  unit_inside round n = unit_tree names instances (suc (length instances) - length round) round n

  -- a value there
  abbrev pub tree_inside : List ℕ → Val → TreeData
  tree_inside round v = tree_with names (unit_inside round) v

-- whether a value may have members
abbrev pub has_members : Val → Bool
has_members (tuple vs) = true
has_members (vector vs) = true
has_members (set vs) = true
has_members (map es) = true
has_members (unit n) = true
has_members _ = false

-- what a member holds, where it is set and isn't void
abbrev pub told_member : Option Val → Option Val
told_member None = None
told_member (Some void) = None
told_member (Some v) = Some v
