-- Whether bytes stand in others, one behind the other.
use Rattle.std.specs.Prelude.{ℕ, Bool, true, false, ◌&&◌, ◌||◌, ◌==◌, List, [], ◌∷◌}

-- the part is the front of the whole
abbrev pub begins_with : List ℕ → List ℕ → Bool
begins_with whole [] = true
begins_with [] (a ∷ part) = false
begins_with (b ∷ whole) (a ∷ part) = b == a && begins_with whole part

-- the part stands in the whole, at its front or farther behind
abbrev pub has_part : List ℕ → List ℕ → Bool
has_part [] part = begins_with [] part
has_part (b ∷ whole) part = begins_with (b ∷ whole) part || has_part whole part
