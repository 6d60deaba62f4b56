-- Data and gaps that are pending: pieces in the order of their sequence numbers, each apart from the others. No public
-- clause cites this module but by `StandsFor`.
use Rattle.std.specs.Prelude.{◌≡◌, ℕ, ◌+◌, ◌-◌, ◌^◌, ◌<◌, ◌≤◌, nat_lt, Bool, false, List, [], ◌∷◌, length, Option, Some, None}
use Rattle.sp_reasm.specs.declared.piece.Piece.{Piece}
use Rattle.sp_reasm.specs.declared.piece.Content.{Content}
use Rattle.sp_reasm.specs.declared.piece.Content.TheVariants.{Bytes, Missing}
use Rattle.sp_reasm.specs.declared.piece.Spot.{Spot}
use Rattle.sp_reasm.specs.declared.piece.Spot.TheVariants.{Bytes as SpotBytes, Missing as SpotMissing, Free}
use Rattle.sp_reasm.specs.Owners.{Owner, Lost, Op, Write, Gap, covering, byte_at, or_else}

abbrev pub size_of : Content → ℕ
size_of (Bytes bytes) = length bytes
size_of (Missing len) = len

-- the operation that leaves such a piece
abbrev pub op_at : ℕ → Content → Op
op_at start (Bytes bytes) = Write start bytes
op_at start (Missing len) = Gap start len

-- what a piece has for a number
abbrev pub has : Piece → ℕ → Option Owner
has piece q = covering (op_at piece.start piece.content) q

-- what pieces have for a number
abbrev pub owner_of : List Piece → ℕ → Option Owner
owner_of [] q = None
owner_of (piece ∷ pieces) q = or_else (has piece q) (owner_of pieces q)

abbrev pub past_of : Piece → ℕ
past_of piece = piece.start + size_of piece.content

-- from this number on, each piece ends before the next begins
abbrev pub AreOrdered : ℕ → List Piece → Type 0
AreOrdered from [] = Unit {0}
AreOrdered from (piece ∷ pieces) = (from ≤ piece.start) × (0 < size_of piece.content) × (past_of piece ≤ 2 ^ 62) × AreOrdered (past_of piece) pieces

-- whether the first piece begins below a number
abbrev pub begins_below : List Piece → ℕ → Bool
begins_below [] q = false
begins_below (piece ∷ pieces) q = nat_lt piece.start q

-- these bytes are the data from a number on
pub record AreData (owner : ℕ → Option Owner) (at : ℕ) (bytes : List ℕ) : Type 0 where
  pub some : 0 < length bytes
  pub fits : at + length bytes ≤ 2 ^ 62
  pub each : (i : ℕ) → i < length bytes → owner (at + i) ≡ byte_at bytes i

-- so many numbers from one on are lost
pub record AreLost (owner : ℕ → Option Owner) (at len : ℕ) : Type 0 where
  pub some : 0 < len
  pub fits : at + len ≤ 2 ^ 62
  pub each : (i : ℕ) → i < len → owner (at + i) ≡ Some Lost

-- a number and so many from it on have no owner
pub record AreFree (owner : ℕ → Option Owner) (at len : ℕ) : Type 0 where
  pub first : owner at ≡ None
  pub some : at < 2 ^ 64 - 1 → 0 < len
  pub fits : at + len ≤ 2 ^ 64 - 1
  pub each : (i : ℕ) → i < len → owner (at + i) ≡ None

abbrev pub IsSpot : (ℕ → Option Owner) → ℕ → Spot → Type 0
IsSpot owner at (SpotBytes bytes) = AreData owner at bytes.now
IsSpot owner at (SpotMissing len) = AreLost owner at len
IsSpot owner at (Free len) = AreFree owner at len

abbrev pub spot_len : Spot → ℕ
spot_len (SpotBytes bytes) = length bytes.now
spot_len (SpotMissing len) = len
spot_len (Free len) = len

-- what data or a gap from a number on have for a number
abbrev pub laid : ℕ → Spot → ℕ → Option Owner
laid start (SpotBytes bytes) q = covering (Write start bytes.now) q
laid start (SpotMissing len) q = covering (Gap start len) q
laid start (Free len) q = None

-- the owners, with data or a gap for the numbers that have none
abbrev pub overlaid : (ℕ → Option Owner) → ℕ → Spot → ℕ → Option Owner
overlaid owner start cover q = or_else (owner q) (laid start cover q)
