-- Why runs of the plain machine end: heights of addresses, the turns that are left, and a bound on the steps.
use Rattle.std.specs.Prelude.{ℕ, zero, suc, ◌+◌, ◌-◌, ◌*◌, List, [], ◌∷◌, ◌++◌, length, replicate, max, slice_get}
use Rattle.sp_events.specs.declared.event.What.{What}
use Rattle.sp_meaning_states.specs.States.{Source, Main, Given, Reading, State}
use Rattle.sp_meaning_states.specs.Scopes.{Scope, InParts}
use Rattle.sp_meaning_states.specs.Reads.{Ask, Read}
use Rattle.sp_code.specs.declared.instr.Instr.{Instr}
use Rattle.sp_code.specs.Machine.{Frame, Plain, Config, At, Ending, Next, Goes, Waits, Over, step}
use Rattle.sp_code.specs.Turns.{edges}
use Rattle.sp_code.specs.Can.{Can}
use Rattle.sp_code.specs.Runs.{Comes}

-- the least number that is greater than the height of each of these addresses
abbrev pub above_all : (ℕ → ℕ) → List ℕ → ℕ
above_all height [] = 0
above_all height (to ∷ tos) = max (suc (height to)) (above_all height tos)

-- the number of steps on the longest way from an address on which no turn is counted, or this bound where there is a longer way
abbrev pub height_in : ℕ → List Instr → ℕ → ℕ
height_in zero code pc = 0
height_in (suc most) code pc = above_all (height_in most code) (edges (slice_get code pc) pc)

-- The height of an address of a program: the number of steps on the longest such way. Where each cycle counts a turn, no such way is
-- longer than the code.
abbrev pub height_of : Plain → ℕ → ℕ
height_of p pc = height_in (length p.code) p.code pc

-- the data of a source, where s are the fiber's own bytes
abbrev pub data_of : List ℕ → Source → List ℕ
data_of s Main = s
data_of s (Given b) = b

-- the turns that a reading has left, where each byte behind its highest place brings all turns anew
abbrev pub turns_left : ℕ → List ℕ → Reading → ℕ
turns_left limit s r = (limit - r.count) + (limit + 1) * (length (data_of s r.source) - r.high)

abbrev pub all_turns_left : ℕ → List ℕ → List Reading → ℕ
all_turns_left limit s [] = 0
all_turns_left limit s (r ∷ rs) = turns_left limit s r + all_turns_left limit s rs

-- the turns that are left of the reading at hand and of those round it
abbrev pub budget : ℕ → List ℕ → State → ℕ
budget limit s st = turns_left limit s st.now + all_turns_left limit s st.outer

-- how often an open construct leads on: once as it is left, and the parts of a unit may lead to its failing before that
abbrev pub exits : Scope → ℕ
exits (InParts failing) = 2
exits x = 1

abbrev pub exits_left : List Frame → ℕ
exits_left [] = 0
exits_left (f ∷ fs) = exits f.scope + exits_left fs

-- how often a run can still come to an address that isn't lower: by each turn, and by each frame that is taken off. A turn counts four
-- times, for it may enter a unit.
abbrev pub rises_left : ℕ → List ℕ → List Frame → State → ℕ
rises_left limit s fs st = 4 * budget limit s st + exits_left fs

-- a bound on the steps that a run can take from a configuration, where s are the fiber's own bytes; only how many they are counts
abbrev pub steps_left : Plain → List ℕ → Config → ℕ
steps_left p s (At pc vs fs st) = rises_left p.limits.turns s fs st * (length p.code + 2) + (height_of p pc + 1)
steps_left p s (Ending how fs st) = rises_left p.limits.turns s fs st * (length p.code + 2)

-- an input of which only these bytes from a base on are known
abbrev pub whole : ℕ → List ℕ → List ℕ
whole base bytes = replicate base 0 ++ bytes

-- the instruction at hand has what it wants
abbrev pub CanAct : Plain → Config → Type 0
CanAct p (At pc vs fs st) = Can p (slice_get p.code pc) vs st
CanAct p (Ending how fs st) = Unit {0}

-- a step that doesn't go on: the machine waits, or all is over
abbrev pub IsStop : Next → Type 0
IsStop (Goes es d) = ⊥
IsStop (Waits m) = Unit {0}
IsStop (Over how st) = Unit {0}

-- a run that comes to a configuration from which it doesn't go on
pub record Stops (p : Plain) (reads : Reading → Ask → Read) (c : Config) : Type 0 where
  pub events : List What
  pub last : Config
  pub comes : Comes p reads c events last
  pub stops : IsStop (step p reads last)
