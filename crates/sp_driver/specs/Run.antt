-- What each exit of a run says.
use Rattle.std.specs.Prelude.{◌≡◌, ◌<◌, ◌≤◌, ◌*◌, ◌/◌, ℕ, List, [], ◌++◌, length, Option, Some, MatchOption}
use Rattle.sp_base.specs.Input.{ended}
use Rattle.sp_base.specs.declared.places.ParseError.{ParseError}
use Rattle.sp_io.specs.Moved.{appended, prepended}
use Rattle.sp_meaning.specs.declared.stand.Stand.TheVariants as Stand
use Rattle.sp_meaning.specs.Meaning.{UnitMeaning}
use Rattle.sp_driver.specs.declared.exits.RunExit.{RunExit}
use Rattle.sp_command.specs.Puts.{IsFront}
use Rattle.sp_driver.specs.declared.options.RunOptions.{RunOptions}
use Rattle.sp_driver.specs.Shown.{shown, whole, run_lines}

-- the lines of each piece were put before a byte of a later piece was taken
abbrev pub IsPrompt : UnitMeaning → RunOptions → List ℕ → List ℕ → Type 0
IsPrompt meaning o taken written = (j : ℕ) → j * o.increment < length taken → IsFront (shown meaning o taken j) written

-- the input was taken to its end, where it tells what is left
abbrev pub IsTakenWhole : Option (List ℕ) → Type 0
IsTakenWhole left = MatchOption left (Unit {0}) (λ rest. rest ≡ [])

-- what was written is a front of what the run of the whole input writes, where the input tells what is left
abbrev pub IsRunPart : UnitMeaning → RunOptions → List ℕ → List ℕ → Option (List ℕ) → Type 0
IsRunPart meaning o taken written left = (rest : List ℕ) → left ≡ Some rest → IsFront written (run_lines meaning o (taken ++ rest))

-- the input was taken to its end, is not too long, and all its lines were written
pub record IsWhole (meaning : UnitMeaning) (o : RunOptions) (taken written : List ℕ) (left : Option (List ℕ)) : Type 0 where
  pub lines : written ≡ whole meaning o taken
  pub taken_whole : IsTakenWhole left
  pub not_long : length taken ≤ o.most

-- what was written of the bytes that were taken, and what of the input is left
abbrev pub AtExit : UnitMeaning → RunOptions → List ℕ → List ℕ → Option (List ℕ) → RunExit → Type 0
AtExit meaning o taken written left RunExit.Done =
    IsWhole meaning o taken written left × ((meaning taken ended).stand ≡ Stand.Done)
AtExit meaning o taken written left RunExit.Failed =
    IsWhole meaning o taken written left × ((error : ParseError) × ((meaning taken ended).stand ≡ Stand.Failed error))
AtExit meaning o taken written left RunExit.InputFault = written ≡ shown meaning o taken (length taken / o.increment)
AtExit meaning o taken written left RunExit.OutFault = IsRunPart meaning o taken written left
AtExit meaning o taken written left RunExit.TooLong = (o.most < length taken) × (written ≡ shown meaning o taken (o.most / o.increment))
AtExit meaning o taken written left RunExit.NoMemory = IsRunPart meaning o taken written left

-- a run of a unit with this meaning over an input in pieces, by its exit; left is what the input has left, and held what the output
-- holds, where they tell it
pub record Runs (meaning : UnitMeaning) (o : RunOptions) (left_before left_after held_before held_after : Option (List ℕ)) (exit : RunExit) : Type 0 where
  pub taken : List ℕ
  pub written : List ℕ
  pub took : left_before ≡ prepended taken left_after
  pub put : held_after ≡ appended held_before written
  pub prompt : IsPrompt meaning o taken written
  pub at_exit : AtExit meaning o taken written left_after exit

-- which counts of faults rose at an exit of a run
abbrev pub RunCause : ℕ → ℕ → ℕ → ℕ → RunExit → Type 0
RunCause input_before input_after out_before out_after RunExit.InputFault = (input_before < input_after) × (out_after ≡ out_before)
RunCause input_before input_after out_before out_after RunExit.OutFault = (input_after ≡ input_before) × (out_before < out_after)
RunCause input_before input_after out_before out_after exit = (input_after ≡ input_before) × (out_after ≡ out_before)
