-- What each call of a sink does: it is refused, or tells notes and leaves the sink in another state.
use Rattle.std.specs.Prelude.{ℕ, ◌+◌, ◌-◌, ◌^◌, ◌&&◌, nat_le, if◌then◌else◌, max, List, [], ◌∷◌, ◌++◌, length, Option, Some, None, Result, Ok, Err, Bool, true, false}
use Rattle.sp_base.specs.declared.kinds.PKind.{PKind}
use Rattle.sp_base.specs.declared.kinds.PKind.TheVariants.{Overflow, LateInitial, SinkClosed}
use Rattle.sp_reasm.specs.declared.notes.Note.{Note}
use Rattle.sp_reasm.specs.declared.notes.Note.TheVariants.{Closed}
use Rattle.sp_reasm.specs.Owners.{Op, Write, Gap, Skip, stand_of}
use Rattle.sp_reasm.specs.Notes.{notes_of, undelivered}

-- a sink: its initial sequence number, its operations since it was new, and whether its unit has ended
pub record Sink : Type 0 where
  pub initial : ℕ
  pub ops : List Op
  pub closed : Bool

abbrev pub new_sink : Sink
new_sink = record { initial = 0; ops = []; closed = false }

-- a call, with sequence numbers
pub data Call : Type 0 where
  write : Option ℕ → List ℕ → Call
  gap : ℕ → ℕ → Call
  skip : ℕ → Call
  close : Bool → Call
  set_initial : ℕ → Call

pub data Outcome : Type 0 where
  Refused : PKind → Outcome
  Tells : List Note → Sink → Outcome

-- the number at which a write without a number begins
abbrev pub next_number : Sink → ℕ
next_number sink = let stand = stand_of sink.ops in sink.initial + max stand.head stand.end

-- so many positions from this number on are at or past the initial number, and end by 2^62
abbrev pub is_in_range : Sink → ℕ → ℕ → Bool
is_in_range sink seq len = nat_le sink.initial seq && nat_le (seq + len) (2 ^ 62)

-- an operation whose number and length are these
abbrev pub operated : Sink → ℕ → ℕ → Op → Outcome
operated sink seq len op =
    if sink.closed then Refused SinkClosed
    else (if is_in_range sink seq len then Tells (notes_of sink.initial (stand_of sink.ops) op) (record sink { ops = sink.ops ++ op ∷ [] }) else Refused Overflow)

abbrev pub number_of : Sink → Option ℕ → ℕ
number_of sink None = next_number sink
number_of sink (Some seq) = seq

abbrev pub is_new : List Op → Bool
is_new [] = true
is_new (op ∷ ops) = false

abbrev pub outcome : Sink → Call → Outcome
outcome sink (write seq bytes) =
    let number = number_of sink seq in
    operated sink number (length bytes) (Write (number - sink.initial) bytes)
outcome sink (gap seq len) = operated sink seq len (Gap (seq - sink.initial) len)
outcome sink (skip seq) = operated sink seq 0 (Skip (seq - sink.initial))
outcome sink (close last) =
    if sink.closed then Tells [] sink
    else (let stand = stand_of sink.ops in Tells (undelivered sink.initial stand stand.end ++ Closed ∷ []) (record { initial = 0; ops = []; closed = last }))
outcome sink (set_initial n) =
    if sink.closed then Tells [] sink
    else (if is_new sink.ops then Tells [] (record sink { initial = n }) else Refused LateInitial)

-- what each of a list of calls answers, and the number at which a write would begin then. A refused call changes nothing
abbrev pub tale : Sink → List Call → List (Result (List Note) PKind × ℕ)
tale sink [] = []
tale sink (call ∷ calls) =
    elim (outcome sink call) [
      | Refused kind ↦ (Err kind, next_number sink) ∷ tale sink calls
      | Tells notes next ↦ (Ok notes, next_number next) ∷ tale next calls
    ]
