-- What is left of a tree that is dropped: the tree in hand, and the one above it.
use Rattle.std.specs.Prelude.{ℕ, ◌+◌, Option, None, Some}
use Rattle.sp_events.specs.Tree.{TreeData}
use Rattle.sp_events.specs.TreeSizes.{tree_size}

abbrev pub held : Option TreeData → ℕ
held None = 0
held (Some t) = tree_size t + 1

abbrev pub left_size : Option (TreeData × Option TreeData) → ℕ
left_size None = 0
left_size (Some s) = tree_size s.0 + 1 + held s.1

abbrev pub hand_size : Option (TreeData × Option TreeData) → ℕ
hand_size None = 0
hand_size (Some s) = tree_size s.0
