-- What reassembly tells of positions, as maximal runs in order.
use Rattle.std.specs.Prelude.{ℕ, zero, suc, ◌+◌, ◌-◌, nat_eq, nat_le, if◌then◌else◌, List, [], ◌∷◌, ◌++◌, map, Option, Some, None}
use Rattle.sp_reasm.specs.declared.notes.Note.{Note}
use Rattle.sp_reasm.specs.declared.notes.Note.TheVariants.{Overlap, Undelivered, Skipped, Deliver, Gap as Missing}
use Rattle.sp_reasm.specs.Owners.{Owner, Data, Lost, Op, Write, Gap, Skip, Stand, start_of, after}

-- the owners of so many positions from one on
abbrev pub owners_from : (ℕ → Option Owner) → ℕ → ℕ → List (Option Owner)
owners_from owner q zero = []
owners_from owner q (suc n) = owner q ∷ owners_from owner (suc q) n

module _ {X : Type 0} where
  -- an item before the runs behind it: it joins the one that begins next to it, or is a run of its own
  abbrev pub before_runs : ℕ → X → List (ℕ × List X) → List (ℕ × List X)
  before_runs at x [] = (at, x ∷ []) ∷ []
  before_runs at x (run ∷ runs) = if nat_eq run.0 (suc at) then (at, x ∷ run.1) ∷ runs else (at, x ∷ []) ∷ run ∷ runs

  -- the maximal runs of what is there, each with the number of its first
  abbrev pub runs : ℕ → List (Option X) → List (ℕ × List X)
  runs at [] = []
  runs at (None ∷ xs) = runs (suc at) xs
  runs at (Some x ∷ xs) = before_runs at x (runs (suc at) xs)

-- a byte of data
abbrev pub datum : Option Owner → Option ℕ
datum None = None
datum (Some (Data b)) = Some b
datum (Some Lost) = None

-- a new byte where there is an old one
abbrev pub both : Option ℕ → ℕ → Option (ℕ × ℕ)
both None new = None
both (Some old) new = Some (old, new)

-- the new bytes from a position on, each beside the old one that is not delivered yet, where there is one
abbrev pub overlapped : Stand → ℕ → List ℕ → List (Option (ℕ × ℕ))
overlapped stand q [] = []
overlapped stand q (b ∷ bytes) = (if nat_le stand.head q then both (datum (stand.owner q)) b else None) ∷ overlapped stand (suc q) bytes

abbrev pub overlap_note : ℕ × List (ℕ × ℕ) → Note
overlap_note run = Overlap run.0 (map (λ p. p.0) run.1) (map (λ p. p.1) run.1)

-- the overlaps that a write meets; the first sequence number of the sink is `initial`
abbrev pub overlaps : ℕ → Stand → ℕ → List ℕ → List Note
overlaps initial stand at bytes = map overlap_note (runs (initial + at) (overlapped stand at bytes))

abbrev pub undelivered_note : ℕ × List ℕ → Note
undelivered_note run = Undelivered run.0 run.1

-- the data that are not delivered, up to a position
abbrev pub undelivered : ℕ → Stand → ℕ → List Note
undelivered initial stand to =
    map undelivered_note (runs (initial + stand.head) (map datum (owners_from stand.owner stand.head (to - stand.head))))

-- an owner before the notes behind it: data join the data next to them, and a lost position the gap next to it
abbrev pub before_notes : ℕ → Option Owner → List Note → List Note
before_notes at None notes = notes
before_notes at (Some (Data b)) (Deliver seq bytes ∷ notes) =
    if nat_eq seq (suc at) then Deliver at (b ∷ bytes) ∷ notes else Deliver at (b ∷ []) ∷ Deliver seq bytes ∷ notes
before_notes at (Some (Data b)) notes = Deliver at (b ∷ []) ∷ notes
before_notes at (Some Lost) (Missing seq len ∷ notes) =
    if nat_eq seq (suc at) then Missing at (suc len) ∷ notes else Missing at 1 ∷ Missing seq len ∷ notes
before_notes at (Some Lost) notes = Missing at 1 ∷ notes

abbrev pub told : ℕ → List (Option Owner) → List Note
told at [] = []
told at (o ∷ os) = before_notes at o (told (suc at) os)

-- what is delivered, or reached as a gap, while the head goes on
abbrev pub delivered : ℕ → Stand → Op → List Note
delivered initial stand op =
    let start = start_of stand op in
    let new = after stand op in
    told (initial + start) (owners_from new.owner start (new.head - start))

-- what an operation tells before the head goes on
abbrev pub told_before : ℕ → Stand → Op → List Note
told_before initial stand (Write at bytes) = overlaps initial stand at bytes
told_before initial stand (Gap at len) = []
told_before initial stand (Skip to) =
    if nat_le to stand.head then [] else (undelivered initial stand to ++ Skipped (initial + to) ∷ [])

abbrev pub notes_of : ℕ → Stand → Op → List Note
notes_of initial stand op = told_before initial stand op ++ delivered initial stand op
