-- The paths that were asked of modules.
use Rattle.std.specs.Prelude.{ℕ, List, ◌++◌, Option, Some, None}

-- the paths that were asked before, and these behind them, where they are told
abbrev pub also_asked : Option (List (List ℕ)) → List (List ℕ) → Option (List (List ℕ))
also_asked None paths = None
also_asked (Some before) paths = Some (before ++ paths)
