-- What the program does, by its exit.
use Rattle.std.specs.Prelude.{◌≡◌, ◌<◌, ◌⊎◌, ℕ, List, [], Option, Some, None, codes}
use Rattle.sp_io.specs.Moved.{appended}
use Rattle.sp_command.specs.Puts.{IsPartPut}
use Rattle.sp_command.specs.Refusals.{refusal_text}
use Rattle.sp_command.specs.Directories.{directories_of}
use Rattle.sp_meaning.specs.Meaning.{UnitMeaning}
use Rattle.sp_read_file.specs.Loads.{UnreadCause}
use Rattle.sp_read_file.specs.declared.unread.Unread.{Unread}
use Rattle.sp_front.specs.Lists.{Files}
use Rattle.sp_front.specs.declared.entries.ModuleFile.{ModuleFile}
use Rattle.sp_front.specs.inside.Follow.{IsRefusedBy}
use Rattle.sp_load.specs.Loads.{IsLoadRefused, sources_of, trees_of}
use Rattle.sp_typed_units.specs.declared.declarations.Typed.{Typed}
use Rattle.sp_session.specs.Units.{unit_meaning}
use Rattle.sp_driver_args.specs.Words.{Words, words_of}
use Rattle.sp_driver.specs.declared.exits.Exit.{Exit}
use Rattle.sp_driver.specs.declared.exits.RunExit.{RunExit}
use Rattle.sp_driver.specs.declared.exits.Unready.{Unready}
use Rattle.sp_driver.specs.Lists.{IsListed, IsUnready, IsChosen}
use Rattle.sp_driver.specs.Options.{limits_of, options_of}
use Rattle.sp_driver.specs.Run.{Runs, RunCause}

-- what a run has to show: the meaning of the unit with this number, within the limits of the words
abbrev pub run_meaning : Words → Typed → ℕ → UnitMeaning
run_meaning w t u = unit_meaning t (limits_of w.turns) u

-- how often the modules, the input and the output failed
pub record Faults : Type 0 where
  pub modules : ℕ
  pub input : ℕ
  pub out : ℕ

-- what the input has left and what the output holds, where they tell it, and how often these and the modules failed
pub record Objects : Type 0 where
  pub left : Option (List ℕ)
  pub held : Option (List ℕ)
  pub faults : Faults

-- what the output for messages holds, where it tells it, and how often it failed
pub record Messages : Type 0 where
  pub held : Option (List ℕ)
  pub faults : ℕ

-- nothing of the input was taken, and nothing was put out
abbrev pub IsUntouched : Objects → Objects → Type 0
IsUntouched before after = (after.left ≡ before.left) × (after.held ≡ before.held)

-- what the words, the files, the input and the output have to do with an exit
abbrev pub Says : List (List ℕ) → Files → Objects → Objects → Exit → Type 0
Says words files before after Exit.Usage = (words_of words ≡ None) × IsUntouched before after
Says words files before after (Exit.Unread unread) =
    (w : Words) × (words_of words ≡ Some w) × IsRefusedBy (IsLoadRefused files w.files (directories_of w.directories)) unread × IsUntouched before after
Says words files before after (Exit.Unready unready) =
    (w : Words) × (fs : List ModuleFile) × (t : Typed)
    × (words_of words ≡ Some w) × IsListed files w fs t × IsUnready w.unit (sources_of fs) (trees_of fs) t unready × IsUntouched before after
Says words files before after (Exit.Ran exit) =
    (w : Words) × (fs : List ModuleFile) × (t : Typed) × (u : ℕ)
    × (words_of words ≡ Some w) × IsListed files w fs t × IsChosen w.unit (sources_of fs) (trees_of fs) t u
    × Runs (run_meaning w t u) (options_of w) before.left after.left before.held after.held exit

-- which counts of faults rose at an exit: where modules could not be read theirs, in a run that of the input or of the output as the run
-- says, and else none
abbrev pub ExitCause : Faults → Faults → Exit → Type 0
ExitCause before after (Exit.Unread unread) = UnreadCause before.modules after.modules unread × (after.input ≡ before.input) × (after.out ≡ before.out)
ExitCause before after (Exit.Ran exit) = (after.modules ≡ before.modules) × RunCause before.input after.input before.out after.out exit
ExitCause before after exit = (after.modules ≡ before.modules) × (after.input ≡ before.input) × (after.out ≡ before.out)

abbrev pub unread_status : Unread → ℕ
unread_status (Unread.Refused refusal) = 3
unread_status Unread.ModulesFault = 4
unread_status Unread.NoMemory = 7

abbrev pub unready_status : Unready → ℕ
unready_status Unready.NoParser = 3
unready_status (Unready.Unbuilt refusal) = 3
unready_status Unready.NoMemory = 7

abbrev pub run_status : RunExit → ℕ
run_status RunExit.Done = 0
run_status RunExit.Failed = 1
run_status RunExit.InputFault = 4
run_status RunExit.OutFault = 5
run_status RunExit.TooLong = 6
run_status RunExit.NoMemory = 7

-- the status that an exit stands for
abbrev pub status_of : Exit → ℕ
status_of Exit.Usage = 2
status_of (Exit.Unread unread) = unread_status unread
status_of (Exit.Unready unready) = unready_status unready
status_of (Exit.Ran exit) = run_status exit

abbrev pub unread_message : Unread → List ℕ
unread_message (Unread.Refused refusal) = refusal_text refusal
unread_message Unread.ModulesFault = codes "spicy-driver: read fault\n"
unread_message Unread.NoMemory = []

abbrev pub unready_message : Unready → List ℕ
unready_message Unready.NoParser = codes "spicy-driver: M32 NoParser\n"
unready_message (Unready.Unbuilt refusal) = refusal_text refusal
unready_message Unready.NoMemory = []

abbrev pub run_message : RunExit → List ℕ
run_message RunExit.InputFault = codes "spicy-driver: read fault\n"
run_message RunExit.TooLong = codes "spicy-driver: input too long\n"
run_message exit = []

-- the message of an exit
abbrev pub message_of : Exit → List ℕ
message_of Exit.Usage = codes "spicy-driver: usage\n"
message_of (Exit.Unread unread) = unread_message unread
message_of (Exit.Unready unready) = unready_message unready
message_of (Exit.Ran exit) = run_message exit

-- the message of an exit was put whole and the status is that of the exit; or it was put in part, if at all, since the output for messages
-- failed or there was no memory
abbrev pub Reported : Exit → Messages → Messages → ℕ → Type 0
Reported exit before after status =
    ((status ≡ status_of exit) × (after.held ≡ appended before.held (message_of exit)) × (after.faults ≡ before.faults))
    ⊎ (((status ≡ 5) × IsPartPut before.held after.held (message_of exit) × (before.faults < after.faults))
    ⊎ ((status ≡ 7) × IsPartPut before.held after.held (message_of exit) × (after.faults ≡ before.faults)))

-- the program ended by one exit: what was taken and put is what the exit says, exactly those counts of faults rose that are its cause, and
-- its message and its status were told
pub record Ended (words : List (List ℕ)) (files : Files) (before after : Objects) (told_before told_after : Messages) (status : ℕ) : Type 0 where
  pub exit : Exit
  pub says : Says words files before after exit
  pub cause : ExitCause before.faults after.faults exit
  pub reported : Reported exit told_before told_after status
