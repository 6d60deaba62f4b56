-- What is said of a file that was not read.
use Rattle.std.specs.Prelude.{◌≡◌, ◌<◌, ℕ, List, Some}
use Rattle.sp_base.specs.declared.kinds.MKind.{MKind}
use Rattle.sp_base.specs.declared.places.Place.{Place}
use Rattle.sp_read_file.specs.declared.unread.Unread.{Unread}
use Rattle.sp_read_file.specs.Files.{IsRefused, refused_at}

abbrev pub IsRefusalOrNoMemory : List ℕ → Place → MKind → Unread → Type 0
IsRefusalOrNoMemory path place kind (Unread.Refused refusal) = refusal ≡ refused_at path place kind
IsRefusalOrNoMemory path place kind Unread.ModulesFault = ⊥
IsRefusalOrNoMemory path place kind Unread.NoMemory = Unit {0}

-- the text at the path is refused, or there was no memory
abbrev pub IsTextUnread : List ℕ → List ℕ → Unread → Type 0
IsTextUnread path text (Unread.Refused refusal) = IsRefused path (Some text) refusal
IsTextUnread path text Unread.ModulesFault = ⊥
IsTextUnread path text Unread.NoMemory = Unit {0}

-- whether the count of faults of the modules rose
abbrev pub UnreadCause : ℕ → ℕ → Unread → Type 0
UnreadCause before after Unread.ModulesFault = before < after
UnreadCause before after unread = after ≡ before
