-- The automaton by bits, and the sets of live spots that come first, as states of a table. For private functions.
use Rattle.std.specs.Prelude.{◌≡◌, ℕ, zero, suc, ◌*◌, ◌/◌, ◌%◌, ◌<◌, ◌≤◌, if◌then◌else◌, Bool, true, false, List, length, Option, Some, None}
use Rattle.std.proofs.Common.{get_or}
use Rattle.std.specs.Global.{Vec}
use Rattle.sp_match.specs.declared.spot.Spot.{Spot}
use Rattle.sp_match.specs.declared.spot.Spot.TheVariants as spot
use Rattle.sp_match.specs.declared.machine.Goal.{Goal}
use Rattle.sp_match.specs.declared.machine.Machine.{Machine}
use Rattle.sp_match.specs.declared.table.Acceptance.{Acceptance}
use Rattle.sp_match.specs.declared.word_jumps.WordJump.{WordJump}
use Rattle.sp_match.specs.Sets.{class_has}
use Rattle.sp_match.specs.Bits.{holds, row, led}
use Rattle.sp_match.specs.Nets.{at, is_byte, is_goal, goal_token, goal_literal, Orderly}
use Rattle.sp_match.specs.Jumps.{AreJumps}
use Rattle.sp_match.specs.Running.{is_ahead, IsNext, IsWinner}

-- whether a spot reads a byte
abbrev pub reads_byte : Spot → ℕ → Bool
reads_byte (spot.Byte bytes next) b = class_has bytes.items b
reads_byte _ b = false

-- each spot reads both bytes or neither
abbrev pub Alike : List Spot → ℕ → ℕ → Type 0
Alike net a b = (p : ℕ) → reads_byte (at net p) a ≡ reads_byte (at net p) b

-- Each of the first n bytes is of one of the classes, and is like the first byte of it.
pub record AreClasses (net : List Spot) (of firsts : List ℕ) (n : ℕ) : Type 0 where
  pub long : length of ≡ n
  pub within : (b : ℕ) → b < n → get_or of b 0 < length firsts
  pub like : (b : ℕ) → b < n → Alike net (get_or firsts (get_or of b 0) 0) b

-- for each class the spots that read its first byte
abbrev pub AreReaders : List Spot → List ℕ → List (Vec ℕ) → Type 0
AreReaders net firsts readers = (c p : ℕ) → c < length firsts → holds (row readers c) p ≡ reads_byte (at net p) (get_or firsts c 0)

-- the spot to which a spot leads by a byte
abbrev pub next_of : Spot → ℕ
next_of (spot.Byte bytes next) = next
next_of _ = 0

abbrev pub AreNexts : List Spot → List ℕ → Type 0
AreNexts net nexts = (p : ℕ) → next_of (at net p) < length net → led nexts p ≡ next_of (at net p)

-- the goal of this number
abbrev pub goal_at : List Goal → ℕ → Goal
goal_at goals j = get_or goals j (record { spot = 0; token = 0; literal = false })

-- the goal at this spot, if it is one
abbrev pub goal_found : Spot → ℕ → Option Goal
goal_found (spot.Goal token literal) number = Some (record { spot = number; token = token; literal = literal })
goal_found _ number = None

-- the goals that are below n, each once or more
pub record AreGoals (net : List Spot) (goals : List Goal) (n : ℕ) : Type 0 where
  pub is : (j : ℕ) → j < length goals → (is_goal (at net ((goal_at goals j).spot)) ≡ true) × (goal_token (at net ((goal_at goals j).spot)) ≡ (goal_at goals j).token) × (goal_literal (at net ((goal_at goals j).spot)) ≡ (goal_at goals j).literal)
  pub all : (g : ℕ) → g < n → is_goal (at net g) ≡ true → (j : ℕ) × (j < length goals) × ((goal_at goals j).spot ≡ g)

-- the better of the best goal so far and this one, if it is live
abbrev pub preferred : Goal → Bool → Option (ℕ × Bool) → Option (ℕ × Bool)
preferred goal false best = best
preferred goal true None = Some (goal.token, goal.literal)
preferred goal true (Some (t, l)) = if is_ahead l t goal.literal goal.token then Some (t, l) else Some (goal.token, goal.literal)

-- the best live goal of the first n
abbrev pub best_of : List Goal → (ℕ → Bool) → ℕ → Option (ℕ × Bool)
best_of goals live zero = None
best_of goals live (suc j) = preferred (goal_at goals j) (live ((goal_at goals j).spot)) (best_of goals live j)

-- The automaton by bits.
pub record IsMachine (net : List Spot) (words : ℕ) (of firsts : List ℕ) (read : List (Vec ℕ)) (some led_to : List ℕ) (jump : List (Vec WordJump)) (found : List Goal) : Type 0 where
  pub orderly : Orderly net
  pub room : length net < 64 * words
  pub classes : AreClasses net of firsts 256
  pub readers : AreReaders net firsts read
  pub bytes : (p : ℕ) → holds some p ≡ is_byte (at net p)
  pub nexts : AreNexts net led_to
  pub within : (p : ℕ) → led led_to p ≤ length net
  pub jumps : AreJumps net jump
  pub goals : AreGoals net found (length net)

-- a live spot reads a byte
abbrev pub SomeReads : List Spot → (ℕ → Bool) → Type 0
SomeReads net live = (p : ℕ) × (live p ≡ true) × (is_byte (at net p) ≡ true)

-- no live spot reads a byte
abbrev pub NoneReads : List Spot → (ℕ → Bool) → Type 0
NoneReads net live = (p : ℕ) → live p ≡ true → is_byte (at net p) ≡ false

-- what a set tells: its best live goal, and whether one of its spots reads on
pub record IsAcceptance (net : List Spot) (live : ℕ → Bool) (best : Option (ℕ × Bool)) (goes_on : Bool) : Type 0 where
  pub wins : IsWinner net live best
  pub reads : goes_on ≡ true → SomeReads net live
  pub ends : goes_on ≡ false → NoneReads net live

-- the acceptance of a state
abbrev pub acceptance_at : List Acceptance → ℕ → Acceptance
acceptance_at acceptances s = get_or acceptances s (record { won = None; reads_on = false })

-- the machine is that of the automaton
abbrev pub IsMachineOf : List Spot → Machine → Type 0
IsMachineOf net m = IsMachine net m.words m.classes.of.items m.classes.firsts.items m.readers.items m.bytes.items m.nexts.items m.jumps.items m.goals.items

-- Each state has its acceptance.
pub record IsStates (net : List Spot) (words : ℕ) (sets : List (Vec ℕ)) (acceptances : List Acceptance) : Type 0 where
  pub accepts_long : length acceptances ≡ length sets
  pub room : (s : ℕ) → s < length sets → length (row sets s) ≡ words
  pub accepts : (s : ℕ) → s < length sets → IsAcceptance net (holds (row sets s)) ((acceptance_at acceptances s).won) ((acceptance_at acceptances s).reads_on)

-- the earlier states are as they were
abbrev pub AreKept : List (Vec ℕ) → List (Vec ℕ) → Type 0
AreKept old new = (length old ≤ length new) × ((s : ℕ) → s < length old → row new s ≡ row old s)

-- the state of this number is there and has this set
abbrev pub IsState : List (Vec ℕ) → List ℕ → Option ℕ → Type 0
IsState sets set to = (s : ℕ) → to ≡ Some s → (s < length sets) × (row sets s ≡ set)

-- Each move that there is leads from a state to that of the set after the bytes of its class.
pub record IsTable (net : List Spot) (words : ℕ) (of firsts : List ℕ) (sets : List (Vec ℕ)) (acceptances : List Acceptance) (moves : List (Option ℕ)) : Type 0 where
  pub states : IsStates net words sets acceptances
  pub from : (j t : ℕ) → get_or moves j None ≡ Some t → j / length firsts < length sets
  pub to : (j t : ℕ) → get_or moves j None ≡ Some t → t < length sets
  pub moved : (j t b : ℕ) → get_or moves j None ≡ Some t → b < 256 → get_or of b 0 ≡ j % length firsts → IsNext net (holds (row sets (j / length firsts))) (holds (row sets t)) b
