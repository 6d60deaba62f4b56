-- What the program does, by its exit.
use Rattle.std.specs.Prelude.{◌≡◌, ◌<◌, ◌⊎◌, ℕ, List, [], Option, Some, None, codes}
use Rattle.sp_io.specs.Moved.{appended}
use Rattle.sp_command.specs.Refusals.{refusal_text}
use Rattle.sp_command.specs.Puts.{IsPartPut}
use Rattle.sp_spicyc.specs.declared.exits.Exit.{Exit}
use Rattle.sp_read_file.specs.declared.unread.Unread.{Unread}
use Rattle.sp_front.specs.declared.entries.ModuleFile.{ModuleFile}
use Rattle.sp_front.specs.Lists.{Files}
use Rattle.sp_front.specs.inside.Follow.{IsRefusedBy}
use Rattle.sp_load.specs.Loads.{IsLoaded, IsLoadRefused}
use Rattle.sp_spicyc.specs.Files.{printed}
use Rattle.sp_read_file.specs.Loads.{UnreadCause}
use Rattle.sp_spicyc.specs.Words.{Words, words_of}

-- what the words and the files have to do with an exit
abbrev pub Says : List (List ℕ) → Files → Exit → Type 0
Says words files Exit.Usage = words_of words ≡ None
Says words files (Exit.Done text) =
    (wanted : Words) × (list : List ModuleFile) × (words_of words ≡ Some wanted) × IsLoaded files wanted.files wanted.directories list × (text ≡ printed wanted list)
Says words files (Exit.Unread unread) =
    (wanted : Words) × (words_of words ≡ Some wanted) × IsRefusedBy (IsLoadRefused files wanted.files wanted.directories) unread

-- whether the count of faults of the modules rose at an exit
abbrev pub ExitCause : ℕ → ℕ → Exit → Type 0
ExitCause before after (Exit.Unread unread) = UnreadCause before after unread
ExitCause before after exit = after ≡ before

abbrev pub unread_status : Unread → ℕ
unread_status (Unread.Refused refusal) = 3
unread_status Unread.ModulesFault = 4
unread_status Unread.NoMemory = 7

-- the status that an exit stands for
abbrev pub status_of : Exit → ℕ
status_of Exit.Usage = 2
status_of (Exit.Done text) = 0
status_of (Exit.Unread unread) = unread_status unread

abbrev pub unread_message : Unread → List ℕ
unread_message (Unread.Refused refusal) = refusal_text refusal
unread_message Unread.ModulesFault = codes "spicyc: read fault\n"
unread_message Unread.NoMemory = []

-- the message of an exit
abbrev pub message_of : Exit → List ℕ
message_of Exit.Usage = codes "spicyc: usage\n"
message_of (Exit.Done text) = []
message_of (Exit.Unread unread) = unread_message unread

-- what an exit writes to the output
abbrev pub output_of : Exit → List ℕ
output_of (Exit.Done text) = text
output_of exit = []

-- what was put to the output and to the output for messages, where they tell it, and how often they failed
pub record Outputs : Type 0 where
  pub out : Option (List ℕ)
  pub err : Option (List ℕ)
  pub out_faults : ℕ
  pub err_faults : ℕ

-- neither failed
abbrev pub SameFaults : Outputs → Outputs → Type 0
SameFaults before after = (after.out_faults ≡ before.out_faults) × (after.err_faults ≡ before.err_faults)

-- of the texts of an exit a front was put, or nothing
abbrev pub ArePartPut : Exit → Outputs → Outputs → Type 0
ArePartPut exit before after = IsPartPut before.out after.out (output_of exit) × IsPartPut before.err after.err (message_of exit)

-- The texts of an exit were put whole and the status is that of the exit; or they were put in part, since an output
-- failed or there was no memory.
abbrev pub Reported : Exit → Outputs → Outputs → ℕ → Type 0
Reported exit before after status =
    ((status ≡ status_of exit) × (after.out ≡ appended before.out (output_of exit)) × (after.err ≡ appended before.err (message_of exit)) × SameFaults before after)
    ⊎ (((status ≡ 5) × ArePartPut exit before after × ((before.out_faults < after.out_faults) ⊎ (before.err_faults < after.err_faults)))
    ⊎ ((status ≡ 7) × ArePartPut exit before after × SameFaults before after))
