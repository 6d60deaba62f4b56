-- The automaton of a token set, and where it stands after the bytes so far. For private functions.
use Rattle.std.specs.Prelude.{◌≡◌, ℕ, nat_le, ◌<◌, ◌≤◌, ◌++◌, ◌⊎◌, Bool, true, false, List, length, Option, Some, None}
use Rattle.std.proofs.Common.{get_or}
use Rattle.sp_regex.specs.Trees.{Syntax, empty}
use Rattle.sp_regex.specs.Language.{InL}
use Rattle.sp_match.specs.declared.spot.Spot.{Spot}
use Rattle.sp_match.specs.Nets.{at, moves, jumps, is_goal, goal_token, goal_literal, Reads, ReadsSome, Alive, AliveAt, Leads, Orderly}
use Rattle.sp_match.specs.Parts.{Below}
use Rattle.sp_match.specs.Matching.{kind, NoneEmpty}

-- The automaton reads the words of the tokens: each token has a goal of its number and kind, and from the set
-- `start` exactly the token's words are read up to it.
pub record Begins (tokens : List Syntax) (net : List Spot) (start : List ℕ) : Type 0 where
  pub orderly : Orderly net
  pub below : Below start (length net)
  pub alive : Alive net start
  pub lively : (p q : ℕ) → Leads (at net p) q → AliveAt net q
  pub goals : (g : ℕ) → is_goal (at net g) ≡ true → (goal_token (at net g) < length tokens) × (goal_literal (at net g) ≡ kind tokens (goal_token (at net g)))
  pub goal_of : (i : ℕ) → i < length tokens → (g : ℕ) × (is_goal (at net g) ≡ true) × (goal_token (at net g) ≡ i)
  pub reads : (g : ℕ) (w : List ℕ) → is_goal (at net g) ≡ true → ReadsSome net g start w → InL (get_or tokens (goal_token (at net g)) empty) w
  pub is_read : (g : ℕ) (w : List ℕ) → is_goal (at net g) ≡ true → InL (get_or tokens (goal_token (at net g)) empty) w → ReadsSome net g start w

-- from some spot of the set the word is read up to the goal
abbrev pub ReadsFrom : List Spot → ℕ → (ℕ → Bool) → List ℕ → Type 0
ReadsFrom net g live w = (p : ℕ) × (live p ≡ true) × Reads net g p w

-- with a spot the set has each one that it jumps to
abbrev pub ClosedUnder : List Spot → (ℕ → Bool) → Type 0
ClosedUnder net live = (p q : ℕ) → live p ≡ true → jumps (at net p) q ≡ true → live q ≡ true

-- The set `live` is where the automaton stands after the bytes w.
pub record Stands (tokens : List Syntax) (net : List Spot) (w : List ℕ) (live : ℕ → Bool) : Type 0 where
  pub closed : ClosedUnder net live
  pub alive : (p : ℕ) → live p ≡ true → AliveAt net p
  pub goes_on : (g : ℕ) (t : List ℕ) → is_goal (at net g) ≡ true → InL (get_or tokens (goal_token (at net g)) empty) (w ++ t) → ReadsFrom net g live t
  pub came : (g : ℕ) (t : List ℕ) → is_goal (at net g) ≡ true → ReadsFrom net g live t → InL (get_or tokens (goal_token (at net g)) empty) (w ++ t)

-- the set of live spots after a byte, jumps and all
pub record IsNext (net : List Spot) (live next : ℕ → Bool) (b : ℕ) : Type 0 where
  pub goes : (p q : ℕ) → live p ≡ true → moves (at net p) b q ≡ true → next q ≡ true
  pub closed : ClosedUnder net next
  pub came : (q : ℕ) → next q ≡ true → (g : ℕ) (w : List ℕ) → Reads net g q w → (p : ℕ) × (r : ℕ) × (live p ≡ true) × (moves (at net p) b r ≡ true) × Reads net g r w
  pub alive : ((p q : ℕ) → Leads (at net p) q → AliveAt net q) → (q : ℕ) → next q ≡ true → AliveAt net q

-- what stands in the automaton of a set that was built
pub record IsNetOf (tokens : List Syntax) (net : List Spot) (start : List ℕ) : Type 0 where
  pub begins : Begins tokens net start
  pub none_empty : NoneEmpty tokens

-- the goal of kind l and number t is taken before the other
abbrev pub is_ahead : Bool → ℕ → Bool → ℕ → Bool
is_ahead true t true u = nat_le t u
is_ahead true t false u = true
is_ahead false t true u = false
is_ahead false t false u = nat_le t u

-- the same, as a choice: the first is a literal and the other isn't, or of two of a kind it has no greater number
abbrev pub Ahead : Bool → ℕ → Bool → ℕ → Type 0
Ahead l t m u = ((l ≡ true) × (m ≡ false)) ⊎ ((l ≡ m) × (t ≤ u))

-- the answer is the best of the live goals
abbrev pub IsWinner : List Spot → (ℕ → Bool) → Option (ℕ × Bool) → Type 0
IsWinner net live None = (g : ℕ) → live g ≡ true → is_goal (at net g) ≡ true → ⊥
IsWinner net live (Some best) = ((g : ℕ) × (live g ≡ true) × (is_goal (at net g) ≡ true) × (goal_token (at net g) ≡ best.0) × (goal_literal (at net g) ≡ best.1)) × ((g : ℕ) → live g ≡ true → is_goal (at net g) ≡ true → Ahead best.1 best.0 (goal_literal (at net g)) (goal_token (at net g)))

-- `set` is the set `initial` with all that it jumps to
pub record IsClosed (net : List Spot) (initial set : ℕ → Bool) : Type 0 where
  pub keeps : (q : ℕ) → initial q ≡ true → set q ≡ true
  pub closed : ClosedUnder net set
  pub came : (q : ℕ) → set q ≡ true → (g : ℕ) (w : List ℕ) → Reads net g q w → ReadsFrom net g initial w
  pub alive : ((p q : ℕ) → Leads (at net p) q → AliveAt net q) → ((q : ℕ) → initial q ≡ true → AliveAt net q) → (q : ℕ) → set q ≡ true → AliveAt net q

-- The set so far, where the spots below i are still to be asked what they jump to.
pub record Closing (net : List Spot) (initial set : ℕ → Bool) (i : ℕ) : Type 0 where
  pub keeps : (q : ℕ) → initial q ≡ true → set q ≡ true
  pub done : (p q : ℕ) → i ≤ p → set p ≡ true → jumps (at net p) q ≡ true → set q ≡ true
  pub came : (q : ℕ) → set q ≡ true → (g : ℕ) (w : List ℕ) → Reads net g q w → ReadsFrom net g initial w
  pub alive : ((p q : ℕ) → Leads (at net p) q → AliveAt net q) → ((q : ℕ) → initial q ≡ true → AliveAt net q) → (q : ℕ) → set q ≡ true → AliveAt net q

-- the best match after one byte more: of all n bytes, if a live goal has won
abbrev pub newest_of : Option (ℕ × Bool) → ℕ → Option (ℕ × ℕ) → Option (ℕ × ℕ)
newest_of None n best = best
newest_of (Some won) n best = Some (won.0, n)
