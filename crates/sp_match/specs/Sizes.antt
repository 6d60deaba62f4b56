-- What a token set and a matcher stand for.
use Rattle.std.specs.Prelude.{◌≡◌, ℕ, ◌+◌, ◌<◌, ◌++◌, Bool, List, [], ◌∷◌, length, Option, Some, None}
use Rattle.std.specs.Global.{Vec}
use Rattle.sp_regex.specs.Trees.{Syntax, positions_of}
use Rattle.sp_match.specs.declared.token_set.TokenSet.{TokenSet}
use Rattle.sp_match.specs.declared.matcher.Matcher.{Matcher}
use Rattle.sp_match.specs.declared.machine.Machine.{Machine}
use Rattle.sp_match.specs.declared.table.Table.{Table}
use Rattle.sp_match.specs.Matching.{BestSoFar}
use Rattle.sp_match.specs.declared.spot.Spot.{Spot}
use Rattle.sp_match.specs.Sets.{has}
use Rattle.sp_match.specs.Bits.{holds, row}
use Rattle.sp_match.specs.Running.{IsNetOf, IsClosed, Stands, IsWinner}
use Rattle.sp_match.specs.Tables.{IsMachineOf, IsTable}

-- the byte positions of the members together
abbrev pub positions_together : List Syntax → ℕ
positions_together [] = 0
positions_together (r ∷ rs) = positions_of r + positions_together rs

-- the table is that of the automaton
abbrev pub IsTableOf : List Spot → Machine → Table → Type 0
IsTableOf net m t = IsTable net m.words m.classes.of.items m.classes.firsts.items t.states.sets.items t.states.acceptances.items t.moves.items

-- The set was built of these members: of their automaton it has the bits, and a table whose first state is the
-- set where the automaton begins.
pub record IsSetOf (set : TokenSet) (tokens : List Syntax) : Type 0 where
  pub net : List Spot
  pub start : List ℕ
  pub is_net : IsNetOf tokens net start
  pub machine : IsMachineOf net set.machine
  pub table : IsTableOf net set.machine set.table
  pub some : 0 < length set.table.states.sets.items
  pub begins : IsClosed net (has start) (holds (row set.table.states.sets.items 0))

-- how many bytes the matcher has read
abbrev pub steps : Matcher → ℕ
steps m = m.stepped

-- the set of live spots: that of the state or, without a state, the one at hand
abbrev pub live_of : List (Vec ℕ) → Option ℕ → List ℕ → List ℕ
live_of sets (Some s) live = row sets s
live_of sets None live = live

-- the matcher of a set of these members has stepped over the bytes w
pub record HasRead (m : Matcher) (tokens : List Syntax) (w : List ℕ) : Type 0 where
  pub set : IsSetOf m.set.now tokens
  pub stepped : m.stepped ≡ length w
  pub live_room : length m.live.items ≡ m.set.now.machine.words
  pub next_room : length m.next.items ≡ m.set.now.machine.words
  pub within : (s : ℕ) → m.state ≡ Some s → s < length m.set.now.table.states.sets.items
  pub stands : Stands tokens set.net w (holds (live_of m.set.now.table.states.sets.items m.state m.live.items))
  pub best : BestSoFar tokens w m.best

-- The same, where the best match is still that before the last byte, and `won` the best live goal now.
pub record HasMoved (m : Matcher) (tokens : List Syntax) (w : List ℕ) (b : ℕ) (won : Option (ℕ × Bool)) : Type 0 where
  pub set : IsSetOf m.set.now tokens
  pub stepped : m.stepped ≡ length w
  pub live_room : length m.live.items ≡ m.set.now.machine.words
  pub next_room : length m.next.items ≡ m.set.now.machine.words
  pub within : (s : ℕ) → m.state ≡ Some s → s < length m.set.now.table.states.sets.items
  pub stands : Stands tokens set.net (w ++ b ∷ []) (holds (live_of m.set.now.table.states.sets.items m.state m.live.items))
  pub wins : IsWinner set.net (holds (live_of m.set.now.table.states.sets.items m.state m.live.items)) won
  pub best : BestSoFar tokens w m.best
