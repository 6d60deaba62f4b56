-- How pending pieces are stored: a list in an arena, and an index from where a piece begins to its slot. No public
-- clause cites this module.
use Rattle.std.specs.Prelude.{◌≡◌, ℕ, ◌-◌, ◌^◌, ◌<◌, ◌≤◌, List, [], ◌∷◌, ◌++◌, map, Option, Some, None}
use Rattle.sp_chain.specs.Chains.{Chains, list_of, IsLive}
use Rattle.sp_reasm.specs.declared.piece.Piece.{Piece}
use Rattle.sp_reasm.specs.Pieces.{AreOrdered}

abbrev pub or_empty : Option (List (ℕ × Piece)) → List (ℕ × Piece)
or_empty None = []
or_empty (Some items) = items

-- the items of the list with this number; none before it is made
abbrev pub items_of : Chains Piece → Option ℕ → List (ℕ × Piece)
items_of chains None = []
items_of chains (Some list) = or_empty (list_of chains list)

abbrev pub IsThere : Chains Piece → Option ℕ → Type 0
IsThere chains None = Unit {0}
IsThere chains (Some list) = IsLive chains list

-- among the items x is under the slot s, behind d and before e
abbrev pub StandsIn : List (ℕ × Piece) → List (ℕ × Piece) → ℕ → Piece → List (ℕ × Piece) → Type 0
StandsIn items d s x e = items ≡ d ++ (s, x) ∷ e

abbrev pub IsSlotIn : List (ℕ × Piece) → ℕ → Type 0
IsSlotIn items s = (d : List (ℕ × Piece)) × (x : Piece) × (e : List (ℕ × Piece)) × StandsIn items d s x e

-- where an item begins, with its slot
abbrev pub entry_of : ℕ × Piece → ℕ × ℕ
entry_of item = (item.1.start, item.0)

abbrev pub pieces_of : List (ℕ × Piece) → List Piece
pieces_of items = map (λ item. item.1) items

-- all these entries are of keys past a number
abbrev pub ArePast : ℕ → List (ℕ × ℕ) → Type 0
ArePast at [] = Unit {0}
ArePast at (entry ∷ entries) = (at < entry.0) × ArePast at entries

-- the slot of the last key up to a number
abbrev pub IsFloor : List (ℕ × ℕ) → ℕ → Option ℕ → Type 0
IsFloor entries at None = ArePast at entries
IsFloor entries at (Some slot) = (before : List (ℕ × ℕ)) × (key : ℕ) × (behind : List (ℕ × ℕ)) × (entries ≡ before ++ (key, slot) ∷ behind) × (key ≤ at) × ArePast at behind

-- the index leads to each piece, and they are in order
pub record IsIndexed (items : List (ℕ × Piece)) (entries : List (ℕ × ℕ)) : Type 0 where
  pub indexed : entries ≡ map entry_of items
  pub ordered : AreOrdered 0 (pieces_of items)

-- how far it is to the first of these items, or to the greatest number
abbrev pub room_to : List (ℕ × Piece) → ℕ → ℕ
room_to [] at = 2 ^ 64 - 1 - at
room_to (item ∷ items) at = item.1.start - at
