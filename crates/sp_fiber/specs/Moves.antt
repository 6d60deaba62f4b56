-- What a machine does over the window that it is lent, as what the plain machine does over the whole input.
use Rattle.std.specs.Prelude.{◌≡◌, ◌≤◌, ℕ, Bool, true, false, List, [], ◌++◌, length, drop, min}
use Rattle.sp_base.specs.Input.{Close}
use Rattle.sp_events.specs.declared.event.What.{What}
use Rattle.sp_window.specs.Windows.{Held}
use Rattle.sp_meaning_states.specs.States.{Reading, State, End}
use Rattle.sp_meaning_states.specs.Reads.{Ask, Read, reads}
use Rattle.sp_code.specs.Machine.{Frame, Plain, Config, At, Ending, Waits, Over, step, low_of}
use Rattle.sp_code.specs.Runs.{Comes}
use Rattle.sp_law_machine.specs.continues.Windows.{From}
use Rattle.sp_machine.specs.Plain.{no_tokens}
use Rattle.sp_machine.specs.Safe.{IsSafe}

-- what is read of a whole input; no instruction asks for tokens yet
abbrev pub whole_reads : List ℕ → Close → Reading → Ask → Read
whole_reads s close = reads no_tokens s close

-- the open constructs of a machine
abbrev pub frames_of : Config → List Frame
frames_of (At pc vs fs st) = fs
frames_of (Ending how fs st) = fs

-- a window holds the bytes of an input from its base on, and the machine never looks before that
pub record Holds (w : Held) (c : Config) (s : List ℕ) : Type 0 where
  pub within : w.base ≤ length s
  pub bytes : w.bytes ≡ drop w.base s
  pub from : From w.base c

-- The machine waits for more of an input. The window begins at the least place that the open constructs and the mark still need, or at
-- the end of the input where that place is behind it.
pub record IsWaiting (p : Plain) (close : Close) (w : Held) (c : Config) (s : List ℕ) : Type 0 where
  pub mark : ℕ
  pub waits : step p (whole_reads s close) c ≡ Waits mark
  pub least : w.base ≡ min (low_of (frames_of c) mark) (length s)
  pub holds : Holds w c s

-- all is over, and the window is empty
pub record IsOver (p : Plain) (close : Close) (w : Held) (c : Config) (s : List ℕ) : Type 0 where
  pub how : End
  pub state : State
  pub over : step p (whole_reads s close) c ≡ Over how state
  pub empty : w.bytes ≡ []

abbrev pub Stopped : Bool → Plain → Close → Held → Config → List ℕ → Type 0
Stopped false p close w c s = IsWaiting p close w c s
Stopped true p close w c s = IsOver p close w c s

-- over a whole input the machine has come from one configuration to another, where it stopped, and has told what the steps between
-- them tell
pub record Moved (p : Plain) (close : Close) (s : List ℕ) (old new : List What) (before after : Config) (w : Held) (is_over : Bool) : Type 0 where
  pub events : List What
  pub told : new ≡ old ++ events
  pub comes : Comes p (whole_reads s close) before events after
  pub stopped : Stopped is_over p close w after s

-- a machine that isn't over is safe
abbrev pub IsSafeUnless : Bool → Plain → Held → Config → Type 0
IsSafeUnless true p w c = Unit {0}
IsSafeUnless false p w c = IsSafe p w c
