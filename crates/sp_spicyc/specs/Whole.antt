-- The answer of a call, where nothing fails and there is memory: its status and all that it writes.
use Rattle.std.specs.Prelude.{◌≡◌, ◌≢◌, ◌⊎◌, ℕ, List, [], Option, Some, None, codes}
use Rattle.sp_io.specs.Moved.{appended}
use Rattle.sp_command.specs.declared.refusal.Refusal.{Refusal}
use Rattle.sp_command.specs.Refusals.{refusal_text}
use Rattle.sp_front.specs.declared.entries.ModuleFile.{ModuleFile}
use Rattle.sp_load.specs.Loads.{IsLoaded, IsLoadRefused}
use Rattle.sp_spicyc.specs.Files.{printed}
use Rattle.sp_spicyc.specs.Words.{Words, words_of}

-- a status, the bytes on the output, and those on the output for messages
pub record Answer : Type 0 where
  pub status : ℕ
  pub out : List ℕ
  pub err : List ℕ

-- the answer of these words over these files: a usage fault, the refusal of the list that the words name, or, where it is loaded, the
-- canonical texts of the named files, if these are wanted
abbrev pub IsAnswer : List (List ℕ) → (List ℕ → Option (List ℕ)) → Answer → Type 0
IsAnswer words files answer =
    ((words_of words ≡ None) × (answer ≡ record { status = 2; out = []; err = codes "spicyc: usage\n" }))
    ⊎ (((wanted : Words) × (refusal : Refusal)
    × (words_of words ≡ Some wanted) × IsLoadRefused (Some files) wanted.files wanted.directories refusal
    × (answer ≡ record { status = 3; out = []; err = refusal_text refusal }))
    ⊎ ((wanted : Words) × (list : List ModuleFile)
    × (words_of words ≡ Some wanted) × IsLoaded (Some files) wanted.files wanted.directories list
    × (answer ≡ record { status = 0; out = printed wanted list; err = [] })))

-- where the files are told, nothing failed and there was memory, the status and what was put are those of the answer
abbrev pub IsAnswered : List (List ℕ) → Option (List ℕ → Option (List ℕ)) → Option (List ℕ) → Option (List ℕ) → Option (List ℕ) → Option (List ℕ) → ℕ → Type 0
IsAnswered words told_files out_before out_after err_before err_after status =
    (files : List ℕ → Option (List ℕ)) → told_files ≡ Some files → status ≢ 4 → status ≢ 5 → status ≢ 7
    → (answer : Answer) × IsAnswer words files answer
    × (status ≡ answer.status) × (out_after ≡ appended out_before answer.out) × (err_after ≡ appended err_before answer.err)
