-- What a fiber stands for.
use Rattle.std.specs.Prelude.{◌≡◌, ◌≤◌, ℕ, List, [], ◌++◌, length}
use Rattle.sp_base.specs.Input.{held_open, ended}
use Rattle.sp_base.specs.declared.places.Limits.{Limits}
use Rattle.sp_events.specs.declared.event.What.{What}
use Rattle.sp_value.specs.Val.{Val}
use Rattle.sp_window.specs.Windows.{Held, end_of}
use Rattle.sp_code.specs.declared.program.Program.{Program}
use Rattle.sp_code.specs.Machine.{Plain, Config, At}
use Rattle.sp_code.specs.Runs.{Comes}
use Rattle.sp_code.specs.Programs.{plain_of, IsSoundProgram}
use Rattle.sp_machine.specs.Plain.{first}
use Rattle.sp_machine.specs.Safe.{IsSafe}
use Rattle.sp_fiber.specs.declared.phase.Phase.{Phase}
use Rattle.sp_fiber.specs.declared.phase.Phase.TheVariants.{Fresh, Waiting, Over, Ended}
use Rattle.sp_fiber.specs.Moves.{whole_reads, Holds, IsWaiting, IsOver}

-- a fiber between two calls: the program that it runs, within limits; how far it is; the bytes that it keeps; where its machine is; and
-- how many bytes it was given
pub record Suspended : Type 0 where
  pub code : Plain
  pub phase : Phase
  pub window : Held
  pub at : Config
  pub received : ℕ

-- a machine before a starter, with the arguments as operands, the last on top
abbrev pub started : ℕ → List Val → Config
started at ws = At at ws [] first

-- the machine will run again
abbrev pub WillRun : Phase → Type 0
WillRun Fresh = Unit {0}
WillRun Waiting = Unit {0}
WillRun _ = ⊥

-- such a machine is safe
abbrev pub IsReady : Phase → Plain → Held → Config → Type 0
IsReady Fresh p w c = IsSafe p w c
IsReady Waiting p w c = IsSafe p w c
IsReady _ p w c = Unit {0}

-- what is true of the parts of each fiber
pub record IsFiber (program : Program) (limits : Limits) (phase : Phase) (w : Held) (c : Config) (received : ℕ) : Type 0 where
  pub sound : IsSoundProgram program
  pub bound : end_of w ≤ received
  pub ready : IsReady phase (plain_of limits program) w c

-- The machine began at a configuration, and over these bytes, held open, it has come to where it is and has told these events since. It
-- has run nothing, or it waits, or all is over.
abbrev pub IsLive : Phase → Plain → Held → (from at : Config) → List ℕ → List What → Type 0
IsLive Fresh p w from at s es = (s ≡ []) × (es ≡ []) × (at ≡ from) × Holds w at []
IsLive Waiting p w from at s es = Comes p (whole_reads s held_open) from es at × IsWaiting p held_open w at s
IsLive Over p w from at s es = Comes p (whole_reads s held_open) from es at × IsOver p held_open w at s
IsLive _ p w from at s es = ⊥

-- a fiber that began at a configuration, was given pieces that make these bytes, and has told these events
pub record StandsFor (f : Suspended) (from : Config) (s : List ℕ) (es : List What) : Type 0 where
  pub live : IsLive f.phase f.code f.window from f.at s es
  pub counted : f.received ≡ length s

-- so of one whose input then ended: all is over
pub record EndedFor (f : Suspended) (from : Config) (s : List ℕ) (es : List What) : Type 0 where
  pub phase : f.phase ≡ Ended
  pub comes : Comes f.code (whole_reads s ended) from es f.at
  pub over : IsOver f.code ended f.window f.at s

-- one that has run, and whose input is held open: it waits, or all is over
abbrev pub HasRun : Phase → Type 0
HasRun Waiting = Unit {0}
HasRun Over = Unit {0}
HasRun _ = ⊥

-- What a further piece has made of a fiber that had told these events: all bytes are now these, and it has told what it tells over
-- them.
pub record Fed (f : Suspended) (from : Config) (s : List ℕ) (es before after : List What) : Type 0 where
  pub events : List What
  pub told : after ≡ before ++ events
  pub run : HasRun f.phase
  pub stands : StandsFor f from s (es ++ events)

-- what the end of its input has made of it
pub record Closed (f : Suspended) (from : Config) (s : List ℕ) (es before after : List What) : Type 0 where
  pub events : List What
  pub told : after ≡ before ++ events
  pub stands : EndedFor f from s (es ++ events)
