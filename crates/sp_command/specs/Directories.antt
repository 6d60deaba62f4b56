-- Directories, as a command line has them.
use Rattle.std.specs.Prelude.{ℕ, List, [], ◌∷◌, Bool, true, false, not, ◌==◌, if◌then◌else◌, filter}

-- one more byte in front of the first of some texts
abbrev pub in_front : ℕ → List (List ℕ) → List (List ℕ)
in_front b [] = (b ∷ []) ∷ []
in_front b (x ∷ xs) = (b ∷ x) ∷ xs

-- the texts between the colons of a text
abbrev pub between_colons : List ℕ → List (List ℕ)
between_colons [] = [] ∷ []
between_colons (b ∷ bs) = if b == 58 then [] ∷ between_colons bs else in_front b (between_colons bs)

abbrev pub is_empty : List ℕ → Bool
is_empty [] = true
is_empty (b ∷ bs) = false

-- Directories are written with a colon between two; empty ones are passed over.
abbrev pub directories_of : List ℕ → List (List ℕ)
directories_of text = filter (λ d. not (is_empty d)) (between_colons text)
