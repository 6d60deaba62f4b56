-- What the definitions say of a few bodies.
use Rattle.std.specs.Prelude.{ℕ, ℤ, pos, negsuc, ◌≡◌, [], ◌∷◌, refl}
use Rattle.sp_lower_hooks.specs.inside.Turns.{Turn, sorted, turn_numbers}
use Rattle.sp_lower_hooks.specs.inside.Rows.{noted, row_at}

abbrev body : ℤ → ℕ → ℕ → ℕ → Turn
body rank home from number = record { rank = rank; home = home; from = from; number = number }

-- the higher rank first, then the earlier module, then the earlier place
order : turn_numbers (sorted (body (pos 0) 1 4 0 ∷ body (negsuc 0) 0 0 1 ∷ body (pos 5) 2 9 2 ∷ body (pos 0) 1 2 3 ∷ body (pos 0) 0 7 4 ∷ [])) ≡ 2 ∷ 4 ∷ 3 ∷ 0 ∷ 1 ∷ []
order = refl

-- of two at one place the later goes first
tied : turn_numbers (sorted (body (pos 0) 0 4 0 ∷ body (pos 0) 0 4 1 ∷ [])) ≡ 1 ∷ 0 ∷ []
tied = refl

-- a body of a unit that is there, and of one that isn't
here : noted 1 (body (pos 0) 0 0 3) ([] ∷ [] ∷ []) ≡ [] ∷ (body (pos 0) 0 0 3 ∷ []) ∷ []
here = refl

nowhere : noted 2 (body (pos 0) 0 0 3) ([] ∷ [] ∷ []) ≡ [] ∷ [] ∷ []
nowhere = refl

row : row_at ((4 ∷ []) ∷ (7 ∷ 8 ∷ []) ∷ []) 1 ≡ 7 ∷ 8 ∷ []
row = refl
