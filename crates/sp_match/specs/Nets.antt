-- The automaton: its spots, and the words that are read from one.
use Rattle.std.specs.Prelude.{◌≡◌, ℕ, ◌<◌, ◌≤◌, ◌==◌, ◌&&◌, ◌++◌, ◌⊎◌, Bool, true, false, List, [], ◌∷◌, length}
use Rattle.std.proofs.Common.{get_or}
use Rattle.sp_match.specs.declared.spot.Spot.{Spot}
use Rattle.sp_match.specs.declared.spot.Spot.TheVariants as spot
use Rattle.sp_match.specs.Sets.{has, class_has}

-- the spot of a number; behind the end there is none
abbrev pub at : List Spot → ℕ → Spot
at net p = get_or net p spot.Nothing

-- whether this spot reads the byte and then is at the spot q
abbrev pub moves : Spot → ℕ → ℕ → Bool
moves (spot.Byte bytes next) b q = class_has bytes.items b && (q == next)
moves _ b q = false

-- whether this spot is at the spot q without a byte
abbrev pub jumps : Spot → ℕ → Bool
jumps (spot.Jump to) q = has to.items q
jumps _ q = false

abbrev pub is_byte : Spot → Bool
is_byte (spot.Byte bytes next) = true
is_byte _ = false

abbrev pub is_jump : Spot → Bool
is_jump (spot.Jump to) = true
is_jump _ = false

abbrev pub is_goal : Spot → Bool
is_goal (spot.Goal token literal) = true
is_goal _ = false

-- the number of the goal's member, and whether that is a literal
abbrev pub goal_token : Spot → ℕ
goal_token (spot.Goal token literal) = token
goal_token _ = 0

abbrev pub goal_literal : Spot → Bool
goal_literal (spot.Goal token literal) = literal
goal_literal _ = false

-- this spot leads to the spot q, by a byte or without one
abbrev pub Leads : Spot → ℕ → Type 0
Leads s q = ((b : ℕ) × (moves s b q ≡ true)) ⊎ (jumps s q ≡ true)

-- from the spot p the word is read up to the goal g
pub data Reads (net : List Spot) (g : ℕ) : ℕ → List ℕ → Type 0 where
  here : is_goal (at net g) ≡ true → Reads net g g []
  over : {p b q : ℕ} {w : List ℕ} → moves (at net p) b q ≡ true → Reads net g q w → Reads net g p (b ∷ w)
  through : {p q : ℕ} {w : List ℕ} → jumps (at net p) q ≡ true → Reads net g q w → Reads net g p w

-- from some spot of the set
abbrev pub ReadsSome : List Spot → ℕ → List ℕ → List ℕ → Type 0
ReadsSome net g set w = (p : ℕ) × (has set p ≡ true) × Reads net g p w

-- from the spot something is read up to some goal
abbrev pub AliveAt : List Spot → ℕ → Type 0
AliveAt net p = (g : ℕ) × (w : List ℕ) × Reads net g p w

-- from each spot of the set something is read up to some goal
abbrev pub Alive : List Spot → List ℕ → Type 0
Alive net set = (p : ℕ) → has set p ≡ true → AliveAt net p

-- the other automaton has the same spots from a up to b
abbrev pub Agree : List Spot → List Spot → ℕ → ℕ → Type 0
Agree net other a b = (p : ℕ) → a ≤ p → p < b → at other p ≡ at net p

-- a word of the language, not empty, and behind it what is read from the set
abbrev pub ReadsPart : List Spot → ℕ → (List ℕ → Type 0) → List ℕ → List ℕ → Type 0
ReadsPart net g L then w = (c : ℕ) × (u : List ℕ) × (v : List ℕ) × (w ≡ (c ∷ u) ++ v) × L (c ∷ u) × ReadsSome net g then v

-- The spots from a up to b read a word of the language and are then at the set `then`: the reading begins at
-- the set `entry`, in any automaton that has these spots.
pub record Compiled (L : List ℕ → Type 0) (then entry : List ℕ) (a b : ℕ) (net : List Spot) : Type 0 where
  pub spots : (p : ℕ) → has entry p ≡ true → ((has then p ≡ true) × L []) ⊎ ((a ≤ p) × (p < b) × (is_byte (at net p) ≡ true))
  pub reads : (other : List Spot) → Agree net other a b → (g p : ℕ) (w : List ℕ) → has entry p ≡ true → a ≤ p → Reads other g p w → ReadsPart other g L then w
  pub is_read : (other : List Spot) → Agree net other a b → (g : ℕ) (u v : List ℕ) → L u → ReadsSome other g then v → ReadsSome other g entry (u ++ v)
  pub alive : (other : List Spot) → Agree net other a b → Alive other then → Alive other entry
  pub lively : (other : List Spot) → Agree net other a b → Alive other then → (p q : ℕ) → a ≤ p → p < b → Leads (at net p) q → AliveAt other q

-- all spots that are named are of the automaton, and a jump leads to no jump but an earlier one
pub record Orderly (net : List Spot) : Type 0 where
  pub next_within : (p b q : ℕ) → moves (at net p) b q ≡ true → q < length net
  pub jump_within : (p q : ℕ) → jumps (at net p) q ≡ true → q < length net
  pub earlier : (p q : ℕ) → jumps (at net p) q ≡ true → is_jump (at net q) ≡ true → q < p
