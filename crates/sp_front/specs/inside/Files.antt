-- What a read of a file gives, and a search for it.
use Rattle.std.specs.Prelude.{ℕ, ◌≡◌, if◌then◌else◌, List, Option, Some, None, Result, Ok, Err}
use Rattle.sp_command.specs.declared.refusal.Refusal.{Refusal}
use Rattle.sp_command.specs.Files.{Holds}
use Rattle.sp_read_file.specs.declared.unread.Unread.{Unread}
use Rattle.sp_read_file.specs.Files.{IsModuleOf, IsRefused}
use Rattle.sp_front.specs.declared.entries.ModuleFile.{ModuleFile}
use Rattle.sp_front.specs.declared.entries.Entry.{Entry}
use Rattle.sp_front.specs.declared.entries.Entry.TheVariants.{Held, Refused}
use Rattle.sp_front.specs.Lists.{Files, IsFirst, IsNone, IsImported, IsNotFound, is_taken, twice}

-- a read that failed for want of memory, or since the files did, and not for what a file holds
abbrev pub IsNoRefusal : Unread → Type 0
IsNoRefusal (Unread.Refused r) = ⊥
IsNoRefusal u = Unit {0}

abbrev pub IsRead : Files → List ℕ → Option (List ℕ) → Type 0
IsRead files path text = Holds files path text

abbrev pub IsFound : Files → List (List ℕ) → Option (List ℕ × List ℕ) → Type 0
IsFound files paths None = IsNone files paths
IsFound files paths (Some x) = IsFirst files paths x.0 x.1

-- what a text is, as the file at a path
abbrev pub IsFileOf : List ℕ → List ℕ → Result ModuleFile Refusal → Type 0
IsFileOf path text (Ok f) = (f.path ≡ path) × (f.text ≡ text) × IsModuleOf f.text f.«module»
IsFileOf path text (Err r) = IsRefused path (Some text) r

-- a named file that holds a module, behind those before it
abbrev pub named_module : List Entry → ModuleFile → Entry
named_module before f = if is_taken before f then Refused None (twice f) else Held f

-- what an import's file is, if it is found
abbrev pub IsImport : Files → List (List ℕ) → List ℕ → Option Entry → Type 0
IsImport files dirs x None = IsNotFound files dirs x
IsImport files dirs x (Some e) = IsImported files dirs x e
