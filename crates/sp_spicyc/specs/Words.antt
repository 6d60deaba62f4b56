-- The command line: `[-L DIRS] [--print] FILES`, at least one file.
use Rattle.std.specs.Prelude.{ℕ, List, [], ◌∷◌, Option, Some, None, Bool, true, false, if◌then◌else◌, bytes_eq, codes}
use Rattle.std.specs.List.{list_all}
use Rattle.sp_command.specs.Directories.{directories_of}
use Rattle.sp_command.specs.Words.{is_file}

-- the directories in which imports are looked for, in their order, whether modules are printed, and the files that are named
pub record Words : Type 0 where
  pub directories : List (List ℕ)
  pub print : Bool
  pub files : List (List ℕ)

abbrev pub are_files : List (List ℕ) → Bool
are_files words = list_all is_file words

-- these files, if there are some and all can be files
abbrev pub with_files : List (List ℕ) → Bool → List (List ℕ) → Option Words
with_files dirs print [] = None
with_files dirs print (file ∷ files) = if are_files (file ∷ files) then Some (record { directories = dirs; print = print; files = file ∷ files }) else None

-- the words behind the directories
abbrev pub behind_directories : List (List ℕ) → List (List ℕ) → Option Words
behind_directories dirs [] = None
behind_directories dirs (word ∷ words) = if bytes_eq word (codes "--print") then with_files dirs true words else with_files dirs false (word ∷ words)

-- the words behind `-L`: the first are the directories, which can't be empty or begin with a dash
abbrev pub behind_library : List (List ℕ) → Option Words
behind_library [] = None
behind_library (text ∷ words) = if is_file text then behind_directories (directories_of text) words else None

-- what the words want, or none at a usage fault
abbrev pub words_of : List (List ℕ) → Option Words
words_of [] = None
words_of (word ∷ words) = if bytes_eq word (codes "-L") then behind_library words else behind_directories [] (word ∷ words)
