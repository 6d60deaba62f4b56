-- What is told of some values, computed.
use Rattle.std.specs.Prelude.{true, codes, None, Some}
use Rattle.std.proofs.Common.{◌≡◌, List, [], ◌∷◌, refl}
use Rattle.sp_events.specs.Tree.{TreeData, trees_of, pairs_of, fields_of}
use Rattle.sp_events.specs.Tree as told
use Rattle.sp_numbers.specs.declared.width.Width.TheVariants.{W8}
use Rattle.sp_value.specs.Val.{Val, void, bool, uint, enum, bits, tuple, map, unit, vals_of, entries_of}
use Rattle.sp_meaning_states.specs.States.{Instance}
use Rattle.sp_meaning_states.specs.Telling.{Names, value_tree, value_trees}

-- two units, an enum and a bitfield
abbrev names : Names
names =
    record {
      members = (codes "a" ∷ codes "b" ∷ codes "c" ∷ []) ∷ (codes "x" ∷ codes "y" ∷ []) ∷ [];
      labels = ((1, codes "E::A") ∷ (3, codes "E::B") ∷ []) ∷ [];
      ranges = (codes "low" ∷ codes "high" ∷ []) ∷ [];
    }

-- the first has a number, an unset member and one without a value; the second holds itself and the first
abbrev instances : List Instance
instances =
    (record { unit = 0; start = 0; parameters = []; members = Some (uint W8 4) ∷ None ∷ Some void ∷ [] })
    ∷ (record { unit = 1; start = 1; parameters = []; members = Some (unit 1) ∷ Some (unit 0) ∷ [] })
    ∷ []

abbrev tree_of : Val → TreeData
tree_of v = value_tree names instances v

a_label : tree_of (enum 0 3) ≡ told.label (codes "E::B")
a_label = refl

no_label : tree_of (enum 0 2) ≡ told.unlisted 2
no_label = refl

ranges_by_name : tree_of (bits 0 (5 ∷ 1 ∷ [])) ≡ told.bits ((codes "low", 5) ∷ (codes "high", 1) ∷ [])
ranges_by_name = refl

-- the first unit, as it is told
abbrev first : TreeData
first = told.unit (fields_of ((codes "a", told.uint 4) ∷ []))

members_that_are_set : tree_of (unit 0) ≡ first
members_that_are_set = refl

-- inside itself a unit has no members, and beside itself it has
inside_itself : tree_of (unit 1) ≡ told.unit (fields_of ((codes "x", told.unit (fields_of [])) ∷ (codes "y", first) ∷ []))
inside_itself = refl

beside_itself : tree_of (tuple (vals_of (unit 0 ∷ unit 0 ∷ []))) ≡ told.tuple (trees_of (first ∷ first ∷ []))
beside_itself = refl

-- what isn't there has no members
nowhere : tree_of (unit 2) ≡ told.unit (fields_of [])
nowhere = refl

keys_first : tree_of (map (entries_of ((uint W8 1, bool true) ∷ []))) ≡ told.map (pairs_of ((told.uint 1, told.bool true) ∷ []))
keys_first = refl

in_order : value_trees names instances (uint W8 1 ∷ void ∷ []) ≡ told.uint 1 ∷ told.void ∷ []
in_order = refl
