-- Sets of spots, as lists, and classes of bytes, by one truth value for each byte.
use Rattle.std.specs.Prelude.{◌≡◌, ℕ, ◌==◌, ◌||◌, Bool, false, List, [], ◌∷◌}
use Rattle.std.proofs.Common.{get_or}

-- whether a spot is in the set
abbrev pub has : List ℕ → ℕ → Bool
has [] p = false
has (x ∷ xs) p = (p == x) || has xs p

-- no spot is in the set
abbrev pub HasNone : List ℕ → Type 0
HasNone set = (p : ℕ) → has set p ≡ false

-- whether a byte is in the class
abbrev pub class_has : List Bool → ℕ → Bool
class_has bytes b = get_or bytes b false
