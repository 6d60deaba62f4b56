-- What calls do to the bytes that an object has left or holds, where it tells them.
use Rattle.std.specs.Prelude.{◌≡◌, ◌≤◌, ℕ, List, [], ◌++◌, length, take, Option, Some, None, MatchOption, Result, Ok, Err}
use Rattle.sp_io.specs.declared.traits.Took as took
use Rattle.sp_io.specs.declared.traits.SourceFault.{SourceFault}
use Rattle.sp_io.specs.declared.traits.OutFault.{OutFault}

-- what is held after these bytes are appended, where it is told
abbrev pub appended : Option (List ℕ) → List ℕ → Option (List ℕ)
appended None bytes = None
appended (Some held) bytes = Some (held ++ bytes)

-- what was left before these bytes were taken, where it is told
abbrev pub prepended : List ℕ → Option (List ℕ) → Option (List ℕ)
prepended bytes None = None
prepended bytes (Some left) = Some (bytes ++ left)

-- this piece of 1 to `most` bytes goes from the front of what is left to the end of a list
pub record Moves (most : ℕ) (before after : Option (List ℕ)) (old new piece : List ℕ) : Type 0 where
  pub some : 1 ≤ length piece
  pub bound : length piece ≤ most
  pub left : before ≡ prepended piece after
  pub into : new ≡ old ++ piece

-- nothing is taken and nothing is appended
pub record Stays (before after : Option (List ℕ)) (old new : List ℕ) : Type 0 where
  pub left : after ≡ before
  pub into : new ≡ old

-- a take moves a piece, or finds nothing left, or is refused and moves nothing
abbrev pub Takes : ℕ → Option (List ℕ) → Option (List ℕ) → List ℕ → List ℕ → Result took.Took SourceFault → Type 0
Takes most before after old new (Ok took.TheVariants.Some) = (piece : List ℕ) × Moves most before after old new piece
Takes most before after old new (Ok took.TheVariants.End) = Stays before after old new × MatchOption before (Unit {0}) (λ left. left ≡ [])
Takes most before after old new (Err fault) = Stays before after old new

-- a take from an object that tells what it has left; of another one this says nothing
abbrev pub TakesTold : ℕ → Option (List ℕ) → Option (List ℕ) → List ℕ → List ℕ → Result took.Took SourceFault → Type 0
TakesTold most None after old new result = Unit {0}
TakesTold most (Some left) after old new result = Takes most (Some left) after old new result

-- a put appends a front of the piece and answers its length, or is refused and appends nothing
abbrev pub Puts : Option (List ℕ) → Option (List ℕ) → List ℕ → Result ℕ OutFault → Type 0
Puts before after piece (Ok n) = after ≡ appended before (take n piece)
Puts before after piece (Err fault) = after ≡ before

-- a put into an object that tells what it holds; of another one this says nothing
abbrev pub PutsTold : Option (List ℕ) → Option (List ℕ) → List ℕ → Result ℕ OutFault → Type 0
PutsTold None after piece result = Unit {0}
PutsTold (Some held) after piece result = Puts (Some held) after piece result
