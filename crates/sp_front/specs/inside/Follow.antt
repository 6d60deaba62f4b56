-- How far the imports of a list were followed.
use Rattle.std.specs.Prelude.{ℕ, ◌≡◌, ◌<◌, List, ◌∷◌, ◌++◌, length, take}
use Rattle.sp_read_file.specs.declared.unread.Unread.{Unread}
use Rattle.sp_command.specs.declared.refusal.Refusal.{Refusal}
use Rattle.sp_front.specs.declared.entries.ModuleFile.{ModuleFile}
use Rattle.sp_front.specs.declared.entries.Import.{Import}
use Rattle.sp_front.specs.declared.entries.Entry.{Entry}
use Rattle.sp_front.specs.declared.entries.Entry.TheVariants.{Held}
use Rattle.sp_front.specs.Lists.{Files, missing, asked_of, is_asked, first_stop, clear, stop, AreNext, IsStop}

-- nothing is in the way before a place
abbrev pub IsClear : List Entry → ℕ → Type 0
IsClear es at = first_stop (is_asked es) es (take at es) ≡ clear

-- nothing is in the way before the entry at a place, and these imports are left to be asked of it
pub record IsDue (es : List Entry) (at : ℕ) (is : List Import) : Type 0 where
  pub file : ModuleFile
  pub after : List Entry
  pub inside : at < length es
  pub split : es ≡ take at es ++ Held file ∷ after
  pub before : IsClear es at
  pub due : asked_of (is_asked es) es file ≡ missing es is

-- so many imports were followed behind some entries
abbrev pub IsFollowed : Files → List (List ℕ) → List Entry → List Entry → Type 0
IsFollowed files dirs es now = (more : List Entry) × AreNext files dirs es more × (now ≡ es ++ more)

-- some were followed, and then one was in vain, or a file is refused
abbrev pub IsStuck : Files → List (List ℕ) → List Entry → Refusal → Type 0
IsStuck files dirs es r = (now : List Entry) × IsFollowed files dirs es now × IsStop files dirs now (stop now) r

abbrev pub IsStuckBy : Files → List (List ℕ) → List Entry → Unread → Type 0
IsStuckBy files dirs es (Unread.Refused r) = IsStuck files dirs es r
IsStuckBy files dirs es u = Unit {0}

-- what an import in vain is refused with, or that there was no memory for it
abbrev pub IsRefusedBy : (Refusal → Type 0) → Unread → Type 0
IsRefusedBy P (Unread.Refused r) = P r
IsRefusedBy P u = Unit {0}
