-- Reading the owners of numbers in runs. No public clause cites this module.
use Rattle.std.specs.Prelude.{◌≡◌, ℕ, ◌+◌, ◌-◌, ◌^◌, ◌<◌, ◌≤◌, ◌⊎◌, max, List, [], ◌∷◌, ◌++◌, length, map, Option, Some, None, IsSome}
use Rattle.sp_reasm.specs.declared.notes.Note.{Note}
use Rattle.sp_reasm.specs.declared.overlay.Overlay.{Overlay}
use Rattle.sp_reasm.specs.declared.overlay.Run.{Run}
use Rattle.sp_reasm.specs.Owners.{Owner, Lost, byte_at}
use Rattle.sp_reasm.specs.Notes.{owners_from, datum, told, runs, overlapped, overlap_note}
use Rattle.sp_reasm.specs.Pieces.{owner_of, overlaid, spot_len}

-- the owners of numbers
abbrev pub owner_in : Overlay → ℕ → Option Owner
owner_in overlay q = overlaid (owner_of overlay.pieces.now) overlay.start overlay.cover q

-- what is laid over ends by 2^62
abbrev pub Fits : Overlay → Type 0
Fits overlay = overlay.start + spot_len overlay.cover ≤ 2 ^ 62

-- these bytes are the data from a number on, up to another or where something else comes
pub record IsDataRun (owner : ℕ → Option Owner) (from to : ℕ) (bytes : List ℕ) : Type 0 where
  pub each : (i : ℕ) → i < length bytes → owner (from + i) ≡ byte_at bytes i
  pub within : from ≤ to → from + length bytes ≤ to
  pub fits : from + length bytes ≤ max from (2 ^ 62)
  pub ended : (to ≤ from + length bytes) ⊎ (datum (owner (from + length bytes)) ≡ None)

-- what is lost from a number on ends here
pub record IsLostRun (owner : ℕ → Option Owner) (from to : ℕ) : Type 0 where
  pub grows : from ≤ to
  pub fits : to ≤ max from (2 ^ 62)
  pub each : (q : ℕ) → from ≤ q → q < to → owner q ≡ Some Lost
  pub ended : owner to ≡ Some Lost → ⊥

-- from a number up to another there are no data
abbrev pub NoData : (ℕ → Option Owner) → ℕ → ℕ → Type 0
NoData owner from to = (q : ℕ) → from ≤ q → q < to → datum (owner q) ≡ None

-- the first run of data between two numbers
pub record IsFirstRun (owner : ℕ → Option Owner) (from to start : ℕ) (bytes : List ℕ) : Type 0 where
  pub begins : from ≤ start
  pub before : NoData owner from start
  pub some : 0 < length bytes
  pub run : IsDataRun owner start to bytes
  pub ends : start + length bytes ≤ to

abbrev pub IsNext : (ℕ → Option Owner) → ℕ → ℕ → Option Run → Type 0
IsNext owner from to None = NoData owner from to
IsNext owner from to (Some run) = IsFirstRun owner from to run.start run.bytes

-- each number from one up to another has an owner
abbrev pub AreOwned : (ℕ → Option Owner) → ℕ → ℕ → Type 0
AreOwned owner from to = (q : ℕ) → from ≤ q → q < to → IsSome (owner q)

-- one note tells what comes from a number up to another
pub record IsTold (owner : ℕ → Option Owner) (at next : ℕ) (old new : List Note) : Type 0 where
  pub note : Note
  pub grows : at < next
  pub owned : AreOwned owner at next
  pub fits : next ≤ 2 ^ 62
  pub more : new ≡ old ++ note ∷ []
  pub rest : (to : ℕ) → next ≤ to → AreOwned owner at to → told at (owners_from owner at (to - at)) ≡ note ∷ told next (owners_from owner next (to - next))

abbrev pub IsStep : (ℕ → Option Owner) → ℕ → Option ℕ → List Note → List Note → Type 0
IsStep owner at None old new = (owner at ≡ None) × (new ≡ old)
IsStep owner at (Some next) old new = IsTold owner at next old new

-- the notes tell what comes from a number up to the first without an owner
pub record AreDelivered (owner : ℕ → Option Owner) (from head : ℕ) (old new : List Note) : Type 0 where
  pub grows : from ≤ head
  pub owned : AreOwned owner from head
  pub free : owner head ≡ None
  pub more : new ≡ old ++ told from (owners_from owner from (head - from))

-- the data from a number up to another
abbrev pub data_in : (ℕ → Option Owner) → ℕ → ℕ → List (Option ℕ)
data_in owner from to = map datum (owners_from owner from (to - from))

-- the overlaps that bytes from a number on meet
abbrev pub overlaps_in : (ℕ → Option Owner) → ℕ → List ℕ → List Note
overlaps_in owner from bytes = map overlap_note (runs from (overlapped (record { owner = owner; head = from; end = 0 }) from bytes))
