-- Between two pieces of a run.
use Rattle.std.specs.Prelude.{◌≡◌, ◌*◌, ℕ, List, length, drop, Option}
use Rattle.sp_base.specs.Input.{Close, held_open}
use Rattle.sp_io.specs.Moved.{appended, prepended}
use Rattle.sp_meaning.specs.declared.stand.Stand.{Stand}
use Rattle.sp_meaning.specs.Meaning.{UnitMeaning}
use Rattle.sp_session.specs.declared.session.Session.{Session}
use Rattle.sp_session.specs.Session.{StandsFor, IsFed, means}
use Rattle.sp_driver.specs.declared.exits.RunExit.{RunExit}
use Rattle.sp_driver.specs.declared.exits.Stop.{Stop}
use Rattle.sp_driver.specs.declared.exits.Turn.{Turn}
use Rattle.sp_driver.specs.declared.exits.Turn.TheVariants.{More, Ends}
use Rattle.sp_driver.specs.declared.options.RunOptions.{RunOptions}
use Rattle.sp_driver.specs.Lines.{event_lines}
use Rattle.sp_driver.specs.Run.{Runs, RunCause}
use Rattle.sp_driver.specs.Shown.{shown}

-- the lines of the events that the meaning of the later bytes has, and that of the earlier bytes, held open, has not
abbrev pub added : UnitMeaning → RunOptions → List ℕ → List ℕ → Close → List ℕ
added meaning o earlier later close = event_lines o.trace (drop (length (meaning earlier held_open).events) (meaning later close).events)

-- j whole pieces, which make the bytes s, were fed, and their lines were put
pub record IsFedBy (meaning : UnitMeaning) (o : RunOptions) (session : Session) (left_before left_after held_before held_after : Option (List ℕ)) (s : List ℕ) (j : ℕ) : Type 0 where
  pub stands : StandsFor session s
  pub fed : IsFed session
  pub means : means session ≡ meaning
  pub took : left_before ≡ prepended s left_after
  pub put : held_after ≡ appended held_before (shown meaning o s j)
  pub size : length s ≡ j * o.increment

-- behind one more piece
abbrev pub Turned : UnitMeaning → RunOptions → Session → Option (List ℕ) → Option (List ℕ) → Option (List ℕ) → Option (List ℕ) → Turn → Type 0
Turned meaning o session left_before left_after held_before held_after More =
    (s : List ℕ) × (j : ℕ) × IsFedBy meaning o session left_before left_after held_before held_after s j
Turned meaning o session left_before left_after held_before held_after (Ends exit) =
    Runs meaning o left_before left_after held_before held_after exit

abbrev pub TurnCause : ℕ → ℕ → ℕ → ℕ → Turn → Type 0
TurnCause input_before input_after out_before out_after More = (input_after ≡ input_before) × (out_after ≡ out_before)
TurnCause input_before input_after out_before out_after (Ends exit) = RunCause input_before input_after out_before out_after exit

-- the exit of a run that stops at its output
abbrev pub exit_of_stop : Stop → RunExit
exit_of_stop Stop.Failed = RunExit.OutFault
exit_of_stop Stop.NoMemory = RunExit.NoMemory

-- the exit of a run whose input has ended, by how the unit stands
abbrev pub exit_of_stand : Stand → RunExit
exit_of_stand Stand.Done = RunExit.Done
exit_of_stand Stand.Waiting = RunExit.Failed
exit_of_stand (Stand.Failed error) = RunExit.Failed

-- the input has ended
abbrev pub IsOver : RunExit → Type 0
IsOver RunExit.Done = Unit {0}
IsOver RunExit.Failed = Unit {0}
IsOver exit = ⊥
