-- The language of a regular expression.
use Rattle.std.specs.Prelude.{◌≡◌, ℕ, zero, suc, ◌<◌, ◌≤◌, ◌++◌, ◌⊎◌, true, List, [], ◌∷◌, Option, Some, None}
use Rattle.sp_regex.specs.Trees.{Syntax, byte, any, class, empty, followed, never, either, repeat, literal}
use Rattle.sp_regex.specs.Syntax.{belongs}

-- a word that is n words of a language, one behind the other
abbrev pub Times : ℕ → (List ℕ → Type 0) → List ℕ → Type 0
Times zero P w = w ≡ []
Times (suc n) P w = (u : List ℕ) × (v : List ℕ) × (w ≡ u ++ v) × P u × Times n P v

-- at most m, where there is such a bound
abbrev pub AtMost : ℕ → Option ℕ → Type 0
AtMost n (Some m) = n ≤ m
AtMost n None = Unit {0}

-- The word is in the language of r: a byte by itself; any byte; a byte of the class; nothing; a word of
-- the pieces and behind it a word of the next one; a word of one of the alternatives; words of the atom one
-- behind the other, as many as the bounds allow; or the bytes of the literal.
abbrev pub InL : Syntax → List ℕ → Type 0
InL (byte b) w = w ≡ b ∷ []
InL any w = (b : ℕ) × (b < 256) × (w ≡ b ∷ [])
InL (class negated rs) w = (b : ℕ) × (b < 256) × (belongs negated rs b ≡ true) × (w ≡ b ∷ [])
InL empty w = w ≡ []
InL (followed a b) w = (u : List ℕ) × (v : List ℕ) × (w ≡ u ++ v) × InL a u × InL b v
InL never w = ⊥
InL (either a b) w = InL a w ⊎ InL b w
InL (repeat least most a) w = (n : ℕ) × (least ≤ n) × AtMost n most × Times n (InL a) w
InL (literal bytes) w = w ≡ bytes
