-- The stack that two lists stand for: trees, and the places where trees began, each the last on top.
use Rattle.std.specs.Prelude.{ℕ, zero, suc, ◌≡◌, ◌≤◌, List, [], ◌∷◌, ◌++◌, length, take, drop, reverse, true, Option, Some, None}
use Rattle.sp_base.specs.declared.places.Span.{Span}
use Rattle.sp_ast.specs.Trees.{Tree, span_of}
use Rattle.sp_ast.specs.Groups.{is_node}
use Rattle.sp_ast.specs.Places.{tree_at, ArePlaces}
use Rattle.sp_ast.specs.declared.groups.Slot.{Slot}
use Rattle.sp_build.specs.declared.stack.Begin.{Begin}
use Rattle.sp_build.specs.Items.{begun, built}
use Rattle.sp_build.specs.Building.{Stack, left, opened, popped_parts}

-- trees, in the order of the text, on a stack
abbrev pub built_on : List Tree → Stack → Stack
built_on [] s = s
built_on (t ∷ ts) s = built_on ts (built t ∷ s)

-- the places where trees began, the last first, and the trees
abbrev pub stack_of : List Begin → List Tree → Stack
stack_of [] ts = built_on ts []
stack_of (b ∷ bs) ts = built_on (drop b.below ts) (begun b.token ∷ stack_of bs (take b.below ts))

-- how many trees stand below the last place where a tree began
abbrev pub floor_of : List Begin → ℕ
floor_of [] = 0
floor_of (b ∷ bs) = b.below

-- the places where trees began stand in their order
abbrev pub AreInOrder : List Begin → ℕ → Type 0
AreInOrder [] count = Unit {0}
AreInOrder (b ∷ bs) count = (b.below ≤ count) × AreInOrder bs b.below

-- a tree on top that isn't left out and no row is the last that was built, and no other on the stack has its place
abbrev pub IsLastOnTop : List Tree → List ℕ → Type 0
IsLastOnTop ts places =
    (below : List ℕ) (at : ℕ) → places ≡ below ++ at ∷ [] → is_node (tree_at ts at) ≡ true → (suc at ≡ length ts) × ArePlaces (take at ts) below

-- what is true of the trees of an arena, the places of those that stand on the stack, and the places where trees began
pub record Holds (ts : List Tree) (places : List ℕ) (begins : List Begin) : Type 0 where
  pub known : ArePlaces ts places
  pub in_order : AreInOrder (reverse begins) (length places)
  pub on_top : IsLastOnTop ts places

-- the trees that stand last, so many, in the order of the text, before others
abbrev pub last_before : ℕ → Stack → List Tree → List Tree
last_before zero s ts = ts
last_before (suc n) (built t ∷ s) ts = last_before n s (t ∷ ts)
last_before (suc n) _ ts = ts

abbrev pub last_trees : ℕ → Stack → List Tree
last_trees n s = last_before n s []

-- so many trees stand last
abbrev pub AreTrees : ℕ → Stack → Type 0
AreTrees zero s = Unit {0}
AreTrees (suc n) (built t ∷ s) = AreTrees n s
AreTrees (suc n) _ = ⊥

-- no tree stands on top
abbrev pub IsFloor : Stack → Type 0
IsFloor (built t ∷ s) = ⊥
IsFloor _ = Unit {0}

-- a tree began there
abbrev pub IsOpen : Stack → Type 0
IsOpen (begun p ∷ s) = Unit {0}
IsOpen _ = ⊥

-- a tree that isn't left out and no row stands on top
abbrev pub IsNodeOnTop : Stack → Type 0
IsNodeOnTop (built t ∷ s) = is_node t ≡ true
IsNodeOnTop _ = ⊥

-- the parts for the slots are the last trees, so many, or there are none
abbrev pub AreFound : Option ℕ → List Slot → Stack → Type 0
AreFound (Some n) slots s = popped_parts slots s ≡ Some (left (last_trees n s) (drop n s))
AreFound None slots s = popped_parts slots s ≡ None

-- the place where a tree began under the last trees, so many
abbrev pub IsBegun : Option ℕ → ℕ → Stack → Type 0
IsBegun (Some p) n s = drop n s ≡ begun p ∷ drop (suc n) s
IsBegun None n s = opened (drop n s) ≡ None

-- the parts for the slots are the last trees, so many, and under them a tree began at this place
abbrev pub AreClosed : ℕ → ℕ → List Slot → Stack → Type 0
AreClosed n p slots s =
    (popped_parts slots s ≡ Some (left (last_trees n s) (drop n s))) × (drop n s ≡ begun p ∷ drop (suc n) s)

-- the slice of the text on which the first of trees stands
abbrev pub first_span : List Tree → Span
first_span [] = record { from = 0; to = 0 }
first_span (t ∷ ts) = span_of t
