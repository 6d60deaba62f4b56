-- What a session stands for.
use Rattle.std.specs.Prelude.{◌≡◌, ℕ, List, [], length}
use Rattle.sp_base.specs.Input.{held_open, ended}
use Rattle.sp_base.specs.declared.places.Limits.{Limits}
use Rattle.sp_events.specs.declared.event.Event.{Event}
use Rattle.sp_events.specs.declared.event.What.{What}
use Rattle.sp_typed_units.specs.declared.declarations.Typed.{Typed}
use Rattle.sp_code.specs.declared.program.Program.{Program}
use Rattle.sp_code.specs.Machine.{Config}
use Rattle.sp_code.specs.Programs.{plain_of, shapes_of, IsSoundProgram}
use Rattle.sp_meaning.specs.Names.{hook_names_of}
use Rattle.sp_code_programs.specs.programs.Whole.{starter_at, IsCompiled}
use Rattle.sp_law_meaning.specs.Standing.{ListStands}
use Rattle.sp_law_programs.specs.finished_units.Meaning.{RunsUnit}
use Rattle.sp_fiber.specs.declared.phase.Phase.{Phase as FiberPhase}
use Rattle.sp_fiber.specs.declared.phase.Phase.TheVariants as fiber_is
use Rattle.sp_fiber.specs.Fibers.{Suspended, started, HasRun}
use Rattle.sp_fiber.specs.Fibers as fibers
use Rattle.sp_meaning.specs.declared.stand.Stand.{Stand}
use Rattle.sp_meaning.specs.declared.stand.Stand.TheVariants.{Waiting}
use Rattle.sp_meaning.specs.Meaning.{UnitMeaning}
use Rattle.sp_session.specs.declared.session.Phase.{Phase}
use Rattle.sp_session.specs.declared.session.Session.{Session}
use Rattle.sp_session.specs.Units.{unit_meaning}

-- A program is that of a list of modules, it is sound, and it runs the unit u of the list within limits and without arguments. The list
-- names only what there is, as the law on meanings asks.
pub record Runs (list : Typed) (program : Program) (limits : Limits) (u : ℕ) : Type 0 where
  pub compiled : IsCompiled list program
  pub sound : IsSoundProgram program
  pub stands : ListStands list
  pub unit : RunsUnit (plain_of limits program) (shapes_of program) (hook_names_of list) list (starter_at list u) u []

-- where such a run begins: before the starter of the unit
abbrev pub start : Typed → ℕ → Config
start list u = started (starter_at list u) []

-- what the unit that a session reads means, within its limits
abbrev pub means : Session → UnitMeaning
means session = unit_meaning session.list.now session.limits session.unit

-- how many bytes it was fed
abbrev pub received : Session → ℕ
received session = session.fiber.received

-- How far the fiber is, and how the unit stands, by the phase of a session that stands for some bytes: before its first piece nothing ran.
abbrev pub IsLive : Phase → UnitMeaning → Stand → FiberPhase → List ℕ → Type 0
IsLive Phase.Fresh meaning stand phase s = (phase ≡ fiber_is.Fresh) × (stand ≡ Waiting)
IsLive Phase.Fed meaning stand phase s = HasRun phase × (stand ≡ (meaning s held_open).stand)
IsLive _ meaning stand phase s = ⊥

-- These parts of a session stand for the bytes s, held open: its fiber began before the starter of the unit, and has told some events over
-- these bytes.
pub record IsAt (list : Typed) (program : Program) (limits : Limits) (u : ℕ) (phase : Phase) (stand : Stand) (f : Suspended) (s : List ℕ) : Type 0 where
  pub runs : Runs list program limits u
  pub code : f.code ≡ plain_of limits program
  pub told : List What
  pub stands : fibers.StandsFor f (start list u) s told
  pub counted : f.received ≡ length s
  pub live : IsLive phase (unit_meaning list limits u) stand f.phase s

-- a session that was started, and was then fed pieces that make the bytes s
abbrev pub StandsFor : Session → List ℕ → Type 0
StandsFor session s = IsAt session.list.now session.program.now session.limits session.unit session.phase session.stand session.fiber s

-- a session that was fed pieces that make the bytes s, and then had the end of its input
pub record EndedFor (session : Session) (s : List ℕ) : Type 0 where
  pub phase : session.phase ≡ Phase.Ended
  pub stand : session.stand ≡ (means session s ended).stand
  pub told : List What
  pub over : fibers.EndedFor session.fiber (start session.list.now session.unit) s told

-- a session for which there was no memory
abbrev pub IsBroken : Session → Type 0
IsBroken session = session.phase ≡ Phase.Broken

-- a session that was only started; it has told nothing
abbrev pub IsFresh : Session → Type 0
IsFresh session = session.phase ≡ Phase.Fresh

-- a session that was fed, be it no byte, and whose input is held open
abbrev pub IsFed : Session → Type 0
IsFed session = session.phase ≡ Phase.Fed

-- the events that a session in this phase, which stands for s, has told
abbrev pub told_in : Phase → UnitMeaning → List ℕ → List Event
told_in Phase.Fed meaning s = (meaning s held_open).events
told_in phase meaning s = []

abbrev pub told_by : Session → List ℕ → List Event
told_by session s = told_in session.phase (means session) s
