-- What a `Reasm` stands for, and what its calls answer.
use Rattle.std.specs.Prelude.{◌≡◌, ℕ, ◌+◌, ◌<◌, ◌≤◌, not, max, List, [], ◌++◌, None, Result, Err, IsOk, MatchResult}
use Rattle.sp_reasm.specs.declared.notes.Note.{Note}
use Rattle.sp_reasm.specs.declared.notes.ReasmFault.{ReasmFault}
use Rattle.sp_reasm.specs.declared.notes.ReasmFault.TheVariants.{Run, NoMemory}
use Rattle.sp_reasm.specs.declared.sink.Reasm.{Reasm}
use Rattle.sp_reasm.specs.Owners.{stand_of}
use Rattle.sp_reasm.specs.Sink.{Sink, is_new, Call, Outcome, Refused, Tells, outcome}
use Rattle.sp_reasm.specs.Pieces.{owner_of}

-- what is kept is what the sink's operations have come to: its numbers, and the owners of the positions that are not
-- delivered, skipped or reached as a gap
pub record StandsFor (reasm : Reasm) (sink : Sink) : Type 0 where
  pub initial : reasm.initial ≡ sink.initial
  pub closed : reasm.closed ≡ sink.closed
  pub begun : is_new sink.ops ≡ not reasm.begun
  pub head : reasm.head ≡ sink.initial + (stand_of sink.ops).head
  pub top : reasm.top ≡ sink.initial + max (stand_of sink.ops).head (stand_of sink.ops).end
  pub owned : (q : ℕ) → (stand_of sink.ops).head ≤ q → owner_of reasm.pieces (sink.initial + q) ≡ (stand_of sink.ops).owner q
  pub below : (q : ℕ) → q < reasm.head → owner_of reasm.pieces q ≡ None

-- the notes and the sink that a call leaves are those of the definition. It is refused exactly where the definition
-- refuses it; a call that is refused, or that had no memory, changes nothing
abbrev pub IsAnswer : Outcome → Result Unit ReasmFault → Reasm → Reasm → List Note → List Note → Type 0
IsAnswer (Refused kind) result old new before after = (result ≡ Err (Run kind)) × (new ≡ old) × (after ≡ before)
IsAnswer (Tells told next) result old new before after =
    MatchResult result (λ _. (after ≡ before ++ told) × StandsFor new next) (λ fault. (fault ≡ NoMemory) × (new ≡ old) × (after ≡ before))

abbrev pub Answers : Sink → Call → Result Unit ReasmFault → Reasm → Reasm → List Note → List Note → Type 0
Answers sink call result old new before after = IsAnswer (outcome sink call) result old new before after

-- the same of a call that tells nothing and takes no memory
abbrev pub IsSetting : Outcome → Result Unit ReasmFault → Reasm → Reasm → Type 0
IsSetting (Refused kind) result old new = (result ≡ Err (Run kind)) × (new ≡ old)
IsSetting (Tells told next) result old new = IsOk result × (told ≡ []) × StandsFor new next

abbrev pub IsSet : Sink → Call → Result Unit ReasmFault → Reasm → Reasm → Type 0
IsSet sink call result old new = IsSetting (outcome sink call) result old new
