-- What a part of a regular expression adds to the automaton. For private functions.
use Rattle.std.specs.Prelude.{◌≡◌, ℕ, zero, suc, ◌<◌, ◌≤◌, ◌++◌, Bool, true, false, List, [], ◌∷◌, length}
use Rattle.sp_regex.specs.Trees.{Syntax, empty, followed}
use Rattle.sp_regex.specs.Language.{InL, Times}
use Rattle.sp_match.specs.declared.spot.Spot.{Spot}
use Rattle.sp_match.specs.Sets.{has, class_has, HasNone}
use Rattle.sp_match.specs.Nets.{at, is_goal, Agree, ReadsSome, Alive, Compiled, Orderly}

-- all spots of the set are below a
abbrev pub Below : List ℕ → ℕ → Type 0
Below set a = (p : ℕ) → has set p ≡ true → p < a

-- The spots of `old` stand as they were, and those behind them read a word of the language from `entry` and
-- are then at `then`.
pub record IsCompiled (L : List ℕ → Type 0) (then entry : List ℕ) (old new : List Spot) : Type 0 where
  pub grown : length old ≤ length new
  pub kept : (p : ℕ) → p < length old → at new p ≡ at old p
  pub compiled : Compiled L then entry (length old) (length new) new
  pub orderly : Orderly old → Orderly new
  pub below : Below entry (length new)
  pub no_goal : (p : ℕ) → length old ≤ p → is_goal (at new p) ≡ true → ⊥

-- The set `begin` stands for the set `entry`: in any automaton that has the spots from a up to b, from both the
-- same is read.
pub record IsNamed (begin entry : List ℕ) (a b : ℕ) (net : List Spot) : Type 0 where
  pub below : Below begin b
  pub none : HasNone begin → HasNone entry
  pub forth : (other : List Spot) → Agree net other a b → (g : ℕ) (w : List ℕ) → ReadsSome other g begin w → ReadsSome other g entry w
  pub back : (other : List Spot) → Agree net other a b → (g : ℕ) (w : List ℕ) → ReadsSome other g entry w → ReadsSome other g begin w
  pub alive : (other : List Spot) → Agree net other a b → Alive other entry → Alive other begin

-- The spots behind those of `first` read a word of the regular expression from `entry`, for which `begin` stands.
pub record IsChain (r : Syntax) (then : ℕ) (entry begin : List ℕ) (first net : List Spot) : Type 0 where
  pub behind : then < length first
  pub compiled : IsCompiled (InL r) (then ∷ []) entry first net
  pub named : IsNamed begin entry (length first) (length net) net

-- a word of A, and behind it one of B
abbrev pub Both : (List ℕ → Type 0) → (List ℕ → Type 0) → List ℕ → Type 0
Both A B w = (u : List ℕ) × (v : List ℕ) × (w ≡ u ++ v) × A u × B v

-- one byte of a class
abbrev pub OneByte : List Bool → List ℕ → Type 0
OneByte bytes w = (x : ℕ) × (class_has bytes x ≡ true) × (w ≡ x ∷ [])

-- parts one behind the other, grouped to the right
abbrev pub in_row : List Syntax → Syntax
in_row [] = empty
in_row (r ∷ rs) = followed r (in_row rs)

-- a word of each, one behind the other
abbrev pub InAll : List Syntax → List ℕ → Type 0
InAll rs w = InL (in_row rs) w

-- so many copies of a part in front of what stands behind them
abbrev pub copies : ℕ → Syntax → Syntax → Syntax
copies zero r rest = rest
copies (suc n) r rest = followed r (copies n r rest)

-- any number of words of A
abbrev pub Star : (List ℕ → Type 0) → List ℕ → Type 0
Star A w = (n : ℕ) × Times n A w

-- one word of A or more
abbrev pub Plus : (List ℕ → Type 0) → List ℕ → Type 0
Plus A w = (n : ℕ) × Times (suc n) A w

-- any number, or one or more
abbrev pub Many : Bool → (List ℕ → Type 0) → List ℕ → Type 0
Many true A w = Star A w
Many false A w = Plus A w
