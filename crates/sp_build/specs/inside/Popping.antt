-- What the code finds on the stack.
use Rattle.std.specs.Prelude.{ℕ, ◌≡◌, List, [], ◌∷◌, drop, Bool, true, false, Option, Some, None}
use Rattle.sp_ast.specs.Trees.{Tree}
use Rattle.sp_build.specs.declared.finding.Wanted.{Wanted}
use Rattle.sp_build.specs.declared.finding.Wanted.TheVariants as wanted
use Rattle.sp_build.specs.Items.{begun, built}
use Rattle.sp_ast.specs.Groups.{is_of, is_node, fits}
use Rattle.sp_ast.specs.declared.groups.Sort.{Sort}
use Rattle.sp_ast.specs.declared.groups.Slot.{Slot}
use Rattle.sp_ast.specs.declared.groups.Slot.TheVariants.{Part as part, Several as several}
use Rattle.sp_build.specs.Building.{Stack, popped, parts_of}
use Rattle.sp_build.specs.Stacks.{last_trees}

-- the test that trees have to pass
abbrev pub passes : Wanted → Tree → Bool
passes (wanted.Of g) t = is_of g t
passes wanted.Nodes t = is_node t

-- no tree that passes the test stands last
abbrev pub Ends : (Tree → Bool) → Stack → Type 0
Ends test [] = Unit {0}
Ends test (begun n ∷ s) = Unit {0}
Ends test (built t ∷ s) = test t ≡ false

-- a tree that passes the test stands on top, and the rest under it, or none stands there
abbrev pub IsUnder : Bool → (Tree → Bool) → Stack → Stack → Type 0
IsUnder true test s rest = (t : Tree) × (s ≡ built t ∷ rest) × (test t ≡ true)
IsUnder false test s rest = Ends test s

-- the last tree may stand for such a part, or none does
abbrev pub IsOnTop : Bool → Sort → Stack → Type 0
IsOnTop true sort s = (t : Tree) × (s ≡ built t ∷ drop 1 s) × (fits sort t ≡ true)
IsOnTop false sort s = popped sort s ≡ None

-- what a rule makes of a stack, or that it makes nothing of it
abbrev pub IsStep : Bool → Option Stack → Stack → Type 0
IsStep true next after = next ≡ Some after
IsStep false next after = next ≡ None

-- how many the last trees are with what a slot takes of those under so many, or that it finds nothing
abbrev pub IsFound : Option ℕ → Slot → ℕ → Stack → Type 0
IsFound (Some n) slot m s =
    (slots : List Slot) → parts_of (slot ∷ slots) (last_trees m s) (drop m s) ≡ parts_of slots (last_trees n s) (drop n s)
IsFound None slot m s = (slots : List Slot) → parts_of (slot ∷ slots) (last_trees m s) (drop m s) ≡ None

-- each slot asks for one part
abbrev pub ask_for_one : List Slot → Bool
ask_for_one [] = true
ask_for_one (part sort ∷ slots) = ask_for_one slots
ask_for_one (several g ∷ slots) = false

-- the same, but for the last slot
abbrev pub ask_well : List Slot → Bool
ask_well (several g ∷ slots) = ask_for_one slots
ask_well slots = ask_for_one slots
