-- The files of the modules.
use Rattle.std.specs.Prelude.{◌≡◌, ℕ, List, Option, Some, None}

-- the content of the file at a path, or none where there is no such file; where the files are told
abbrev pub Holds : Option (List ℕ → Option (List ℕ)) → List ℕ → Option (List ℕ) → Type 0
Holds None path content = Unit {0}
Holds (Some files) path content = content ≡ files path
