-- Which files are read for the words of a call.
use Rattle.std.specs.Prelude.{◌≡◌, ℕ, List, [], Option, Some, None}
use Rattle.sp_command.specs.Directories.{directories_of}
use Rattle.sp_front.specs.Asked.{Told, AsksAll, AsksNoMore}
use Rattle.sp_driver_args.specs.Words.{Words, words_of}

-- these paths are asked for the files and the directories that are wanted; none are where the words are faulty
abbrev pub AsksFor : Option Words → (List (List ℕ) → List (List ℕ) → List (List ℕ) → Type 0) → List (List ℕ) → Type 0
AsksFor None Are asked = asked ≡ []
AsksFor (Some w) Are asked = Are w.files (directories_of w.directories) asked

-- No path is asked beyond those that the words ask.
abbrev pub AsksByWords : List (List ℕ) → Told → List (List ℕ) → Type 0
AsksByWords words files asked = AsksFor (words_of words) (λ names dirs asked. AsksNoMore files names dirs asked) asked

-- All paths that the words ask are asked, and no others.
abbrev pub AsksAllByWords : List (List ℕ) → Told → List (List ℕ) → Type 0
AsksAllByWords words files asked = AsksFor (words_of words) (λ names dirs asked. AsksAll files names dirs asked) asked
