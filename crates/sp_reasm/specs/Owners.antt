-- Who owns a position. Positions are sequence numbers less the initial one. A position belongs to the first operation
-- that covered it at or past the head, for good; later data never win.
use Rattle.std.specs.Prelude.{ℕ, zero, suc, ◌+◌, ◌-◌, ◌&&◌, nat_lt, nat_le, nat_eq, if◌then◌else◌, max, List, [], ◌∷◌, length, Option, Some, None}

-- what covers a position: a byte, or nothing that will ever come
pub data Owner : Type 0 where
  Data : ℕ → Owner
  Lost : Owner

-- an operation that was not refused, in positions: bytes from a position on, so many positions that are lost, and all
-- before a position given up
pub data Op : Type 0 where
  Write : ℕ → List ℕ → Op
  Gap : ℕ → ℕ → Op
  Skip : ℕ → Op

-- the byte so many places on
abbrev pub byte_at : List ℕ → ℕ → Option Owner
byte_at [] n = None
byte_at (b ∷ bytes) zero = Some (Data b)
byte_at (b ∷ bytes) (suc n) = byte_at bytes n

-- what an operation has for a position
abbrev pub covering : Op → ℕ → Option Owner
covering (Write at bytes) q = if nat_le at q then byte_at bytes (q - at) else None
covering (Gap at len) q = if nat_le at q && nat_lt q (at + len) then Some Lost else None
covering (Skip to) q = None

-- the end of what an operation has
abbrev pub end_of : Op → ℕ
end_of (Write at []) = 0
end_of (Write at (b ∷ bytes)) = at + length (b ∷ bytes)
end_of (Gap at len) = if nat_eq len 0 then 0 else at + len
end_of (Skip to) = 0

-- the owner of each position, the position up to which all was delivered, skipped or reached as a gap, and the end of
-- the last position that has an owner
pub record Stand : Type 0 where
  pub owner : ℕ → Option Owner
  pub head : ℕ
  pub end : ℕ

abbrev pub or_else : Option Owner → Option Owner → Option Owner
or_else None second = second
or_else (Some o) second = Some o

-- the owner of a position after an operation: the one that it had, and else what the operation has for it, where the
-- position is not below the head
abbrev pub owner_after : Stand → Op → ℕ → Option Owner
owner_after stand op q = or_else (stand.owner q) (if nat_le stand.head q then covering op q else None)

-- where an operation begins to move the head: a skip past it goes there at once
abbrev pub start_of : Stand → Op → ℕ
start_of stand (Write at bytes) = stand.head
start_of stand (Gap at len) = stand.head
start_of stand (Skip to) = max stand.head to

-- the first position from q on, of the next n, that has no owner
abbrev pub first_without : (ℕ → Option Owner) → ℕ → ℕ → ℕ
first_without owner q zero = q
first_without owner q (suc n) = elim (owner q) [ None ↦ q | Some _ ↦ first_without owner (suc q) n ]

-- one operation after another. The head goes on to the first position without an owner
abbrev pub after : Stand → Op → Stand
after stand op =
    let owner = owner_after stand op in
    let end = max stand.end (end_of op) in
    record { owner = owner; head = first_without owner (start_of stand op) end; end = end }

-- before any operation
abbrev pub nothing : Stand
nothing = record { owner = λ _. None; head = 0; end = 0 }

abbrev pub after_all : Stand → List Op → Stand
after_all stand [] = stand
after_all stand (op ∷ ops) = after_all (after stand op) ops

-- what the operations since a sink was new have come to
abbrev pub stand_of : List Op → Stand
stand_of ops = after_all nothing ops
