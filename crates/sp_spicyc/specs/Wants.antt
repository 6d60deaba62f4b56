-- What the words of a call say, as the code holds them.
use Rattle.std.specs.Prelude.{ℕ, List}
use Rattle.sp_spicyc.specs.declared.words.Wanted.{Wanted}
use Rattle.sp_command.specs.Directories.{directories_of}
use Rattle.sp_spicyc.specs.Words.{Words}

-- the words with these directories
abbrev pub with_directories : List (List ℕ) → Wanted → Words
with_directories dirs w = record { directories = dirs; print = w.print; files = w.files.now }

abbrev pub wanted_words : Wanted → Words
wanted_words w = with_directories (directories_of w.directories.now) w
