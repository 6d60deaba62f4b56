-- What modules in memory answer.
use Rattle.std.specs.Prelude.{ℕ, List, [], ◌∷◌, Option, Some, None, if◌then◌else◌}
use Rattle.std.specs.Str.{bytes_eq}

-- the contents of the first file of that path
abbrev pub lookup : List (List ℕ × List ℕ) → List ℕ → Option (List ℕ)
lookup [] path = None
lookup (file ∷ files) path = if bytes_eq file.0 path then Some file.1 else lookup files path
