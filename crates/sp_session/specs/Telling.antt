-- How what a fiber tells becomes events, and how its unit ends.
use Rattle.std.specs.Prelude.{◌≡◌, ℕ, List, [], ◌++◌}
use Rattle.sp_base.specs.Input.{Close, held_open, ended}
use Rattle.sp_events.specs.declared.event.Event.{Event}
use Rattle.sp_events.specs.declared.event.What.{What}
use Rattle.sp_meaning_states.specs.States.{Result, events_of}
use Rattle.sp_meaning_states.specs.Telling.{Names}
use Rattle.sp_code.specs.Machine.{Config}
use Rattle.sp_law_programs.specs.unit_told.Told.{Tells}
use Rattle.sp_fiber.specs.Moves.{whole_reads}
use Rattle.sp_fiber.specs.Fibers.{Suspended, StandsFor, EndedFor, HasRun}
use Rattle.sp_meaning.specs.declared.stand.Stand.{Stand}
use Rattle.sp_meaning.specs.declared.stand.Stand.TheVariants.{Waiting, Done, Failed}
use Rattle.sp_meaning.specs.Meaning.{told}
use Rattle.sp_session.specs.declared.ending.Ending.{Ending}
use Rattle.sp_session.specs.declared.ending.Ending.TheVariants.{Waits, Gives, Fails}
use Rattle.sp_session.specs.Units.{of_flow, last, stand_of}

-- the last event by how a unit ends, and how the unit stands
abbrev pub last_by : Ending → List Event
last_by Waits = []
last_by (Gives tree) = told (What.Done tree)
last_by (Fails e) = told (What.Failed e)

abbrev pub stand_by : Ending → Stand
stand_by Waits = Waiting
stand_by (Gives tree) = Done
stand_by (Fails e) = Failed e

-- this is how a result ends
pub record IsEnding (names : Names) (r : Result) (e : Ending) : Type 0 where
  pub stands : stand_by e ≡ stand_of r
  pub tells : last_by e ≡ last names r

-- A fiber that began at a configuration has come to a stop over these bytes, held open or ended, and has told these events since.
abbrev pub HasStopped : Close → Suspended → Config → List ℕ → List What → Type 0
HasStopped held_open f from s es = StandsFor f from s es × HasRun f.phase
HasStopped ended f from s es = EndedFor f from s es

-- It has told all of a result there.
pub record HasTold (close : Close) (f : Suspended) (from : Config) (s : List ℕ) (r : Result) : Type 0 where
  pub stopped : HasStopped close f from s (events_of r)
  pub tells : Tells f.code (whole_reads s close) f.at (events_of r) r

-- this is how the unit of a fiber ends, whatever the fiber has told
abbrev pub IsOfFiber : Suspended → Names → Ending → Type 0
IsOfFiber f names e = (close : Close) (from : Config) (s : List ℕ) (r : Result) → HasTold close f from s r → IsEnding names r e

-- What is new of a result, whose last events are these, where the unit stood so before: nothing where the unit was over.
abbrev pub news : Names → Result → List What → Stand → List Event
news names r es Waiting = of_flow es ++ last names r
news names r es Done = []
news names r es (Failed e) = []

-- how the unit stands then
abbrev pub next_stand : Result → Stand → Stand
next_stand r Waiting = stand_of r
next_stand r Done = Done
next_stand r (Failed e) = Failed e

-- of some events a front was appended
pub record IsFront (before after events : List Event) : Type 0 where
  pub appended : List Event
  pub rest : List Event
  pub is : after ≡ before ++ appended
  pub all : events ≡ appended ++ rest

-- What was appended is what is new of whatever the fiber has told, its last events being these, and so the unit stands now.
abbrev pub IsToldOn : Suspended → Names → List What → (stand now : Stand) → (before after : List Event) → Type 0
IsToldOn f names es stand now before after =
    (close : Close) (from : Config) (s : List ℕ) (r : Result) → HasTold close f from s r → (after ≡ before ++ news names r es stand) × (now ≡ next_stand r stand)

-- a front of it was appended
abbrev pub IsToldInPart : Suspended → Names → List What → Stand → (before after : List Event) → Type 0
IsToldInPart f names es stand before after = (close : Close) (from : Config) (s : List ℕ) (r : Result) → HasTold close f from s r → IsFront before after (news names r es stand)
