-- The run of a whole input, where nothing fails and there is memory: its status and all that it writes.
use Rattle.std.specs.Prelude.{◌≡◌, ◌≢◌, ◌⊎◌, ℕ, List, [], length, Option, Some, None, codes, nat_lt, if◌then◌else◌}
use Rattle.sp_base.specs.Input.{ended}
use Rattle.sp_io.specs.Moved.{appended}
use Rattle.sp_meaning.specs.declared.stand.Stand.{Stand}
use Rattle.sp_meaning.specs.Meaning.{UnitMeaning}
use Rattle.sp_command.specs.Refusals.{refusal_text}
use Rattle.sp_command.specs.Directories.{directories_of}
use Rattle.sp_command.specs.declared.refusal.Refusal.{Refusal}
use Rattle.sp_front.specs.declared.entries.ModuleFile.{ModuleFile}
use Rattle.sp_load.specs.Loads.{IsLoadRefused, sources_of, trees_of}
use Rattle.sp_typed_units.specs.declared.declarations.Typed.{Typed}
use Rattle.sp_driver_args.specs.Words.{Words, words_of}
use Rattle.sp_driver.specs.declared.exits.Unready.{Unready}
use Rattle.sp_driver.specs.declared.options.RunOptions.{RunOptions}
use Rattle.sp_driver.specs.Lists.{IsListed, IsUnready, IsChosen}
use Rattle.sp_driver.specs.Options.{options_of}
use Rattle.sp_driver.specs.Driver.{run_meaning, unready_status, unready_message}
use Rattle.sp_driver.specs.Shown.{run_lines}

-- a status, the bytes on the output, and those on the output for messages
pub record Answer : Type 0 where
  pub status : ℕ
  pub out : List ℕ
  pub err : List ℕ

-- an answer with a message alone
abbrev pub tells : ℕ → List ℕ → Answer
tells status message = record { status = status; out = []; err = message }

-- 0 where the unit was read whole, else 1
abbrev pub stand_status : Stand → ℕ
stand_status Stand.Done = 0
stand_status stand = 1

abbrev pub ended_answer : UnitMeaning → RunOptions → List ℕ → Answer
ended_answer meaning o input = record { status = stand_status (meaning input ended).stand; out = run_lines meaning o input; err = [] }

abbrev pub long_answer : UnitMeaning → RunOptions → List ℕ → Answer
long_answer meaning o input = record { status = 6; out = run_lines meaning o input; err = codes "spicy-driver: input too long\n" }

-- the answer of a unit with this meaning over the input
abbrev pub run_answer : UnitMeaning → RunOptions → List ℕ → Answer
run_answer meaning o input = if nat_lt o.most (length input) then long_answer meaning o input else ended_answer meaning o input

-- The answer where no unit runs: the refusal of the list that the words name; or that no unit, or more than one, is the one that runs; or
-- the refusal of what can't be run yet. (Want of memory has another status, and is no answer.)
abbrev pub IsRefusal : (List ℕ → Option (List ℕ)) → Words → Answer → Type 0
IsRefusal files w answer =
    ((refusal : Refusal) × IsLoadRefused (Some files) w.files (directories_of w.directories) refusal × (answer ≡ tells 3 (refusal_text refusal)))
    ⊎ ((fs : List ModuleFile) × (t : Typed) × (unready : Unready)
    × IsListed (Some files) w fs t × IsUnready w.unit (sources_of fs) (trees_of fs) t unready × (unready_status unready ≡ 3) × (answer ≡ tells 3 (unready_message unready)))

-- the answer of the unit that runs
abbrev pub IsRun : (List ℕ → Option (List ℕ)) → List ℕ → Words → Answer → Type 0
IsRun files input w answer =
    (fs : List ModuleFile) × (t : Typed) × (u : ℕ)
    × IsListed (Some files) w fs t × IsChosen w.unit (sources_of fs) (trees_of fs) t u × (answer ≡ run_answer (run_meaning w t u) (options_of w) input)

-- the answer of these words over these files and this input
abbrev pub IsAnswer : List (List ℕ) → (List ℕ → Option (List ℕ)) → List ℕ → Answer → Type 0
IsAnswer words files input answer =
    ((words_of words ≡ None) × (answer ≡ tells 2 (codes "spicy-driver: usage\n")))
    ⊎ ((w : Words) × (words_of words ≡ Some w) × (IsRefusal files w answer ⊎ IsRun files input w answer))

-- where the files and the input are told, nothing failed and there was memory, the status and what was put are those of the answer
abbrev pub IsAnswered : List (List ℕ) → Option (List ℕ → Option (List ℕ)) → Option (List ℕ) → Option (List ℕ) → Option (List ℕ) → Option (List ℕ) → Option (List ℕ) → ℕ → Type 0
IsAnswered words told_files told_input out_before out_after err_before err_after status =
    (files : List ℕ → Option (List ℕ)) (input : List ℕ) → told_files ≡ Some files → told_input ≡ Some input → status ≢ 4 → status ≢ 5 → status ≢ 7
    → (answer : Answer) × IsAnswer words files input answer
    × (status ≡ answer.status) × (out_after ≡ appended out_before answer.out) × (err_after ≡ appended err_before answer.err)
