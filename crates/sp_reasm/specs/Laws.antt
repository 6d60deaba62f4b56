-- What holds of every list of operations.
use Rattle.std.specs.Prelude.{◌≡◌, ℕ, zero, suc, ◌+◌, ◌-◌, ◌<◌, ◌≤◌, List, [], ◌∷◌, ◌++◌, length, map, Option, Some, None, IsSome}
use Rattle.sp_reasm.specs.declared.notes.Note.{Note}
use Rattle.sp_reasm.specs.declared.notes.Note.TheVariants.{Overlap, Undelivered, Skipped, Deliver, Gap as Missing, Closed}
use Rattle.sp_reasm.specs.Owners.{Owner, Data, Lost, Op, start_of, after, stand_of}
use Rattle.sp_reasm.specs.Notes.{runs, owners_from, delivered}

-- a position that has an owner keeps it
abbrev pub OwnersStay : Type 0
OwnersStay = (ops more : List Op) (q : ℕ) (o : Owner) → (stand_of ops).owner q ≡ Some o → (stand_of (ops ++ more)).owner q ≡ Some o

-- the head never goes back
abbrev pub HeadStays : Type 0
HeadStays = (ops more : List Op) → (stand_of ops).head ≤ (stand_of (ops ++ more)).head

-- what lies below the head stays as it is
abbrev pub BelowStays : Type 0
BelowStays = (ops more : List Op) (q : ℕ) → q < (stand_of ops).head → (stand_of (ops ++ more)).owner q ≡ (stand_of ops).owner q

-- the head stands before a position without an owner
abbrev pub HeadIsFree : Type 0
HeadIsFree = (ops : List Op) → (stand_of ops).owner (stand_of ops).head ≡ None

-- the head goes over no position that has no owner, from where it was or where a skip has put it
abbrev pub NoHole : Type 0
NoHole = (ops : List Op) (op : Op) (q : ℕ) → start_of (stand_of ops) op ≤ q → q < (after (stand_of ops) op).head
    → IsSome ((after (stand_of ops) op).owner q)

-- positions from one on, each with one of these
abbrev pub numbered : {X : Type 0} → ℕ → List X → List (ℕ × X)
numbered at [] = []
numbered at (o ∷ os) = (at, o) ∷ numbered (suc at) os

abbrev pub losses : ℕ → List Owner
losses zero = []
losses (suc n) = Lost ∷ losses n

-- the positions that a note delivers or reaches as a gap
abbrev pub covered : Note → List (ℕ × Owner)
covered (Deliver seq bytes) = numbered seq (map Data bytes)
covered (Missing seq len) = numbered seq (losses len)
covered (Overlap _ _ _) = []
covered (Undelivered _ _) = []
covered (Skipped _) = []
covered Closed = []

abbrev pub all_covered : List Note → List (ℕ × Owner)
all_covered [] = []
all_covered (note ∷ notes) = covered note ++ all_covered notes

-- what is there, each at its position, of these from one on
abbrev pub found : {X : Type 0} → ℕ → List (Option X) → List (ℕ × X)
found at [] = []
found at (None ∷ xs) = found (suc at) xs
found at (Some x ∷ xs) = (at, x) ∷ found (suc at) xs

-- what is told while the head goes on is each position that it goes over, once and in order, as it is owned
abbrev pub DeliveredOnce : Type 0
DeliveredOnce = (initial : ℕ) (ops : List Op) (op : Op) →
    (let stand = stand_of ops in let new = after stand op in let start = start_of stand op in
    (os : List Owner) × (owners_from new.owner start (new.head - start) ≡ map Some os)
    × (all_covered (delivered initial stand op) ≡ numbered (initial + start) os))

-- each run ends before the next begins, with something between
abbrev pub AreApart : {X : Type 0} → List (ℕ × List X) → Type 0
AreApart [] = Unit {0}
AreApart (run ∷ []) = Unit {0}
AreApart (run ∷ next ∷ rest) = (run.0 + length run.1 < next.0) × AreApart (next ∷ rest)

-- what runs hold, each at its position
abbrev pub items_of : {X : Type 0} → List (ℕ × List X) → List (ℕ × X)
items_of [] = []
items_of (run ∷ runs) = numbered run.0 run.1 ++ items_of runs

-- the runs that overlaps and undelivered data are told in, here of bytes, are as long as they can be
abbrev pub RunsApart : Type 0
RunsApart = (at : ℕ) (xs : List (Option ℕ)) → AreApart (runs at xs)

-- and hold what is there and nothing else, in order
abbrev pub RunsFind : Type 0
RunsFind = (at : ℕ) (xs : List (Option ℕ)) → items_of (runs at xs) ≡ found at xs
