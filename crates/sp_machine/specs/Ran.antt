-- What a machine has done of a run.
use Rattle.std.specs.Prelude.{◌≡◌, ◌<◌, List, ◌++◌}
use Rattle.sp_events.specs.declared.event.What.{What}
use Rattle.sp_window.specs.Windows.{Held}
use Rattle.sp_meaning_states.specs.States.{Reading}
use Rattle.sp_meaning_states.specs.Reads.{Ask, Read}
use Rattle.sp_code.specs.Machine.{Plain, Config, Next, Waits, Over, step}
use Rattle.sp_code.specs.Runs.{Comes}
use Rattle.sp_law_machine.specs.ends.Ending.{steps_left, whole}
use Rattle.sp_machine.specs.declared.machine.Stop.{Stop}
use Rattle.sp_machine.specs.declared.machine.Stop.TheVariants as stop_is
use Rattle.sp_machine.specs.Plain.{Does}
use Rattle.sp_machine.specs.Safe.{IsSafe}

-- it comes from one configuration to another, and has told what the steps between them tell
pub record Came (p : Plain) (reads : Reading → Ask → Read) (w : Held) (old new : List What) (before after : Config) : Type 0 where
  pub events : List What
  pub told : new ≡ old ++ events
  pub comes : Comes p reads before events after
  pub safe : IsSafe p w after

-- a step that waits, or by which all is over
abbrev pub IsStop : Stop → Next → Type 0
IsStop stop_is.Need (Waits m) = Unit {0}
IsStop stop_is.Over (Over how st) = Unit {0}
IsStop stop next = ⊥

-- it comes to where it stops
pub record Ran (p : Plain) (reads : Reading → Ask → Read) (w : Held) (old new : List What) (before after : Config) (stop : Stop) : Type 0 where
  pub came : Came p reads w old new before after
  pub stops : IsStop stop (step p reads after)

-- one step or more, behind which fewer are left; or a step that doesn't go on, which has changed nothing
abbrev pub Advanced : Plain → (Reading → Ask → Read) → Held → List What → List What → Config → Config → Stop → Type 0
Advanced p reads w old new before after stop_is.GoesOn = Came p reads w old new before after × (steps_left p (whole w.base w.bytes) after < steps_left p (whole w.base w.bytes) before)
Advanced p reads w old new before after stop = Does stop old new before after (step p reads before)
