-- How what is laid over goes into the list, and how it is taken back. No public clause cites this module.
use Rattle.std.specs.Prelude.{◌≡◌, ℕ, ◌<◌, ◌≤◌, nat_eq, if◌then◌else◌, List, [], ◌∷◌, Option, Some, None}
use Rattle.sp_reasm.specs.declared.piece.Piece.{Piece}
use Rattle.sp_reasm.specs.declared.piece.Content.TheVariants.{Bytes, Missing}
use Rattle.sp_reasm.specs.declared.piece.Spot.{Spot}
use Rattle.sp_reasm.specs.declared.piece.Spot.TheVariants.{Bytes as SpotBytes, Missing as SpotMissing, Free}
use Rattle.sp_reasm.specs.Owners.{Owner, or_else}
use Rattle.sp_reasm.specs.Pieces.{laid}

-- pieces without the one that begins at a number
abbrev pub without : ℕ → List Piece → List Piece
without start [] = []
without start (piece ∷ pieces) = if nat_eq start piece.start then pieces else piece ∷ without start pieces

-- pieces without those that begin at these numbers, of which the last goes first
abbrev pub undone : List ℕ → List Piece → List Piece
undone [] pieces = pieces
undone (start ∷ starts) pieces = without start (undone starts pieces)

-- the piece of data or a gap
abbrev pub IsKept : ℕ → Spot → Option Piece → Type 0
IsKept at (SpotBytes bytes) kept = kept ≡ Some (record { start = at; content = Bytes bytes.now })
IsKept at (SpotMissing len) kept = kept ≡ Some (record { start = at; content = Missing len })
IsKept at (Free len) kept = kept ≡ None

-- from one number up to another the cover owns what has no owner
pub record IsPut (old new : ℕ → Option Owner) (start : ℕ) (cover : Spot) (at next : ℕ) : Type 0 where
  pub grows : at < next
  pub below : (q : ℕ) → q < at → new q ≡ old q
  pub within : (q : ℕ) → at ≤ q → q < next → new q ≡ or_else (old q) (laid start cover q)
  pub above : (q : ℕ) → next ≤ q → new q ≡ old q

-- from a number on the cover owns what has no owner
pub record IsFilled (old new : ℕ → Option Owner) (start : ℕ) (cover : Spot) (from : ℕ) : Type 0 where
  pub below : (q : ℕ) → q < from → new q ≡ old q
  pub rest : (q : ℕ) → from ≤ q → new q ≡ or_else (old q) (laid start cover q)
