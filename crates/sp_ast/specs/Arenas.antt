-- The trees of an arena: a list of entries, each the root of a tree whose parts are trees of entries before it.
use Rattle.std.specs.Prelude.{ℕ, ◌+◌, ◌<◌, ◌≤◌, List, [], ◌∷◌, ◌++◌, length, take, drop, ◌≡◌}
use Rattle.std.proofs.Common.{get_or}
use Rattle.sp_base.specs.declared.places.Span.{Span}
use Rattle.sp_ast.specs.Trees.{Tree, in_row, tree}
use Rattle.sp_ast.specs.Heights.{height}
use Rattle.sp_ast.specs.Places.{trees_at, ArePlaces, AreSound, no_parts}
use Rattle.sp_ast.specs.declared.heads.Head.{Head}
use Rattle.sp_ast.specs.declared.heads.Head.TheVariants as head_is
use Rattle.sp_ast.specs.declared.arena.Entry.{Entry}

-- the places of an entry's parts
abbrev pub parts_of : List ℕ → Entry → List ℕ
parts_of places entry = take entry.count (drop entry.from places)

-- the tree with this root and these parts
abbrev pub headed : Head → Span → List Tree → Tree
headed head_is.Row span ts = in_row ts
headed (head_is.Of form) span ts = tree form span ts

-- the tree of an entry, by the trees of those before it
abbrev pub made : List Head → List ℕ → List Tree → Entry → Tree
made heads places ts entry =
    headed (get_or heads entry.head head_is.Row) entry.span (trees_at ts (parts_of places entry))

-- the trees of entries, behind the trees of those before them
abbrev pub grown : List Head → List ℕ → List Tree → List Entry → List Tree
grown heads places ts [] = ts
grown heads places ts (entry ∷ entries) = grown heads places (ts ++ made heads places ts entry ∷ []) entries

-- the trees of all entries
abbrev pub arena_trees : List Head → List ℕ → List Entry → List Tree
arena_trees heads places entries = grown heads places [] entries

-- An entry's root and the places of its parts are there, its parts stand before it, and its height is its tree's.
pub record IsEntry (heads : List Head) (places : List ℕ) (ts : List Tree) (entry : Entry) : Type 0 where
  pub head : entry.head < length heads
  pub within : entry.from + entry.count ≤ length places
  pub before : ArePlaces ts (parts_of places entry)
  pub levels : entry.levels ≡ height (made heads places ts entry)

-- so do all entries behind those of these trees
abbrev pub AreEntries : List Head → List ℕ → List Tree → List Entry → Type 0
AreEntries heads places ts [] = Unit {0}
AreEntries heads places ts (entry ∷ entries) =
    IsEntry heads places ts entry × AreEntries heads places (ts ++ made heads places ts entry ∷ []) entries

-- what is true of an arena
pub record Stands (heads : List Head) (places : List ℕ) (entries : List Entry) : Type 0 where
  pub entries_are : AreEntries heads places [] entries
  pub sound : AreSound (arena_trees heads places entries)
  pub few : length entries ≤ no_parts
