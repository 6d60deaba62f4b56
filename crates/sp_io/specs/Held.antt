-- What the objects in memory are seen as.
use Rattle.std.specs.Prelude.{◌≡◌, ◌≤◌, ◌+◌, ◌-◌, ◌^◌, ℕ, min, List, [], ◌∷◌, length, drop, Bool, Option}

-- the number of the next call, the numbers of the calls that fail, and how often one failed
pub record Calls : Type 0 where
  pub next : ℕ
  pub fails : List ℕ
  pub faults : ℕ

-- one more call was counted, and the list of failing calls stays
pub record IsNextCall (before after : Calls) : Type 0 where
  pub next : after.next ≡ min (before.next + 1) (2 ^ 64 - 1)
  pub fails : after.fails ≡ before.fails

-- an output in memory: the bytes that it took
pub record OutState : Type 0 where
  pub held : List ℕ
  pub calls : Calls

-- a source in memory: what is left of its pieces
pub record SourceState : Type 0 where
  pub pieces : List (List ℕ)
  pub calls : Calls

-- modules in memory: paths with the contents there, and the paths that were asked
pub record ModulesState : Type 0 where
  pub files : List (List ℕ × List ℕ)
  pub asked : List (List ℕ)
  pub calls : Calls

-- modules in memory that never fail: the same, but for the calls
pub record SureState : Type 0 where
  pub files : List (List ℕ × List ℕ)
  pub asked : List (List ℕ)

-- modules in the real folders tell nothing but how often they failed
pub record FolderState : Type 0 where
  pub faults : ℕ

-- a source over a reader: what is left, where the reader tells it, and how often it failed
pub record ReaderState : Type 0 where
  pub left : Option (List ℕ)
  pub faults : ℕ

-- a source over a file: whether it was opened, what is left of it, where that is told, and how often it failed
pub record FileState : Type 0 where
  pub is_open : Bool
  pub left : Option (List ℕ)
  pub faults : ℕ

-- an output over a writer: what the writer holds, where it tells that, and how often it failed
pub record WriterState : Type 0 where
  pub held : Option (List ℕ)
  pub faults : ℕ

-- pieces without this many bytes of the first
abbrev pub unused : ℕ → List (List ℕ) → List (List ℕ)
unused count [] = []
unused count (piece ∷ pieces) = drop count piece ∷ pieces

-- pieces without the empty ones at the front
abbrev pub passed : List (List ℕ) → List (List ℕ)
passed [] = []
passed ([] ∷ pieces) = passed pieces
passed ((byte ∷ piece) ∷ pieces) = (byte ∷ piece) ∷ pieces

-- the first piece, or no bytes where there is none
abbrev pub first_piece : List (List ℕ) → List ℕ
first_piece [] = []
first_piece (piece ∷ pieces) = piece

-- no more of the first piece is used than it has
abbrev pub IsUsedWithin : ℕ → List (List ℕ) → Type 0
IsUsedWithin count [] = Unit {0}
IsUsedWithin count (piece ∷ pieces) = count ≤ length piece
