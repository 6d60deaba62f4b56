-- What the parts of a call do, in sequence numbers. No public clause cites this module.
use Rattle.std.specs.Prelude.{◌≡◌, ℕ, ◌+◌, ◌-◌, ◌^◌, ◌<◌, ◌≤◌, ◌&&◌, nat_le, nat_eq, if◌then◌else◌, max, min, Bool, true, List, [], ◌∷◌, ◌++◌, length, map, drop, Option, Some, None, Result, Ok, Err}
use Rattle.sp_base.specs.declared.kinds.PKind.TheVariants.{Overflow, SinkClosed}
use Rattle.sp_reasm.specs.declared.notes.Note.{Note}
use Rattle.sp_reasm.specs.declared.notes.Note.TheVariants.{Skipped, Closed}
use Rattle.sp_reasm.specs.declared.notes.ReasmFault.{ReasmFault}
use Rattle.sp_reasm.specs.declared.notes.ReasmFault.TheVariants.{Run}
use Rattle.sp_reasm.specs.declared.sink.Reasm.{Reasm}
use Rattle.sp_reasm.specs.Owners.{Owner, Write, Gap, covering, or_else}
use Rattle.sp_reasm.specs.Notes.{owners_from, runs, undelivered_note, told}
use Rattle.sp_reasm.specs.Pieces.{owner_of}
use Rattle.sp_reasm.specs.inside.Overlays.{AreOwned, data_in, overlaps_in}

-- whether a call may be made
abbrev pub checked : Bool → ℕ → ℕ → ℕ → Result Unit ReasmFault
checked closed initial seq len =
    if closed then Err (Run SinkClosed)
    else (if nat_le initial seq && nat_le (seq + len) (2 ^ 62) then Ok tt else Err (Run Overflow))

abbrev pub number_or : Option ℕ → ℕ → ℕ
number_or None top = top
number_or (Some seq) top = seq

abbrev pub reached : ℕ → ℕ → ℕ → ℕ
reached top len end = if nat_eq len 0 then top else max top end

-- the owners that are pending
abbrev pub pending : Reasm → ℕ → Option Owner
pending reasm q = or_else (owner_of reasm.pieces q) None

-- the owners, with those of a cover where there is none
abbrev pub joint : Reasm → (ℕ → Option Owner) → ℕ → Option Owner
joint reasm cover q = or_else (owner_of reasm.pieces q) (cover q)

-- from a number on all is delivered up to the first number without an owner, and what is behind that is kept
pub record Settles (old new : Reasm) (cover : ℕ → Option Owner) (top from : ℕ) (first : List Note) (before after : List Note) : Type 0 where
  pub initial : new.initial ≡ old.initial
  pub closed : new.closed ≡ old.closed
  pub begun : new.begun ≡ true
  pub top_is : new.top ≡ max top new.head
  pub grows : from ≤ new.head
  pub owned : AreOwned (joint old cover) from new.head
  pub free : joint old cover new.head ≡ None
  pub notes : after ≡ before ++ (first ++ told from (owners_from (joint old cover) from (new.head - from)))
  pub above : (q : ℕ) → new.head ≤ q → owner_of new.pieces q ≡ joint old cover q
  pub below : (q : ℕ) → q < new.head → owner_of new.pieces q ≡ None

-- how many positions, of so many from a number on, are below the head
abbrev pub past_head : Reasm → ℕ → ℕ → ℕ
past_head reasm at len = min (reasm.head - at) len

abbrev pub IsWritten : Reasm → Reasm → ℕ → List ℕ → List Note → List Note → Type 0
IsWritten old new at bytes before after =
    let past = past_head old at (length bytes) in
    Settles old new (covering (Write (at + past) (drop past bytes))) (reached old.top (length bytes) (at + length bytes)) old.head (overlaps_in (pending old) (at + past) (drop past bytes)) before after

abbrev pub IsLost : Reasm → Reasm → ℕ → ℕ → List Note → List Note → Type 0
IsLost old new at len before after =
    let past = past_head old at len in
    Settles old new (covering (Gap (at + past) (len - past))) (reached old.top len (at + len)) old.head [] before after

-- the data that are given up where all below a number is
abbrev pub given_up : Reasm → ℕ → List Note
given_up reasm seq =
    if nat_le seq reasm.head then [] else (map undelivered_note (runs reasm.head (data_in (pending reasm) reasm.head seq)) ++ Skipped seq ∷ [])

abbrev pub IsGivenUp : Reasm → Reasm → ℕ → List Note → List Note → Type 0
IsGivenUp old new seq before after = Settles old new (λ q. None) old.top (max old.head seq) (given_up old seq) before after

-- what is told where all is given up
abbrev pub closing : Reasm → List Note
closing reasm = map undelivered_note (runs reasm.head (data_in (pending reasm) reasm.head reasm.top)) ++ Closed ∷ []
