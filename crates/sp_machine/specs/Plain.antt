-- What a machine is as plain data, and when it has done a step.
use Rattle.std.specs.Prelude.{◌≡◌, ℕ, Bool, false, List, [], ◌++◌, None, if◌then◌else◌}
use Rattle.sp_base.specs.Input.{Close, held_open, ended}
use Rattle.sp_events.specs.declared.event.What.{What}
use Rattle.sp_window.specs.Windows.{Held}
use Rattle.sp_meaning_states.specs.States.{Main, Reading, State, Fine, Failed, Returned}
use Rattle.sp_meaning_states.specs.Reads.{Ask, Read, Verdict, Grows}
use Rattle.sp_code.specs.Machine.{Config, At, Ending, Next, Goes, Waits, Over}
use Rattle.sp_law_machine.specs.continues.Windows.{reads_window}
use Rattle.sp_frames.specs.Frames.{error_of}
use Rattle.sp_machine.specs.declared.machine.Machine.{Machine}
use Rattle.sp_machine.specs.declared.machine.Mode.{Mode}
use Rattle.sp_machine.specs.declared.machine.Mode.TheVariants.{Running, Leaving, Returning, Failing}
use Rattle.sp_machine.specs.declared.machine.Stop.{Stop}
use Rattle.sp_machine.specs.declared.machine.Stop.TheVariants as stop_is

-- the input that is read: the fiber's own bytes, without views
abbrev pub reading_of : Machine → Reading
reading_of m = record { source = Main; place = m.place; high = m.high; count = m.count; views = [] }

abbrev pub state_of : Machine → State
state_of m =
    record {
      instances = m.instances.items;
      self = m.own;
      locals = m.locals.items;
      now = reading_of m;
      outer = [];
      level = 0;
      stamps = 0;
      depth = m.depth;
      tries = false;
      move = None;
    }

-- the state in which a machine begins: no unit is entered, and nothing of the input was read
abbrev pub first : State
first =
    record {
      instances = [];
      self = 0;
      locals = [];
      now = record { source = Main; place = 0; high = 0; count = 0; views = [] };
      outer = [];
      level = 0;
      stamps = 0;
      depth = 0;
      tries = false;
      move = None;
    }

-- a machine at an instruction, or one that takes frames off by an end
abbrev pub plain_in : Mode → Machine → Config
plain_in Running m = At m.pc m.operands m.stack (state_of m)
plain_in Leaving m = Ending Fine m.stack (state_of m)
plain_in (Returning v) m = Ending (Returned v) m.stack (state_of m)
plain_in (Failing e) m = Ending (Failed (error_of e)) m.stack (state_of m)

abbrev pub plain : Machine → Config
plain m = plain_in m.mode m

-- no instruction asks for tokens yet
abbrev pub no_tokens : ℕ → List ℕ → Bool → Verdict
no_tokens set w over = Grows

abbrev pub close_of : Bool → Close
close_of is_ended = if is_ended then ended else held_open

-- what is read of a window, which is held open or has ended
abbrev pub reads_of : Held → Bool → Reading → Ask → Read
reads_of w is_ended = reads_window no_tokens w.base w.bytes (close_of is_ended)

-- a machine that is where a step goes on to, telling nothing
abbrev pub Leads : Config → Next → Type 0
Leads c (Goes es d) = (es ≡ []) × (c ≡ d)
Leads c next = ⊥

-- What a machine has done of a step: it went on, and told what the step tells; or it waits, or all is over, and it has changed nothing.
abbrev pub Does : Stop → List What → List What → Config → Config → Next → Type 0
Does stop_is.GoesOn old new before after (Goes es d) = (new ≡ old ++ es) × (after ≡ d)
Does stop_is.Need old new before after (Waits m) = (new ≡ old) × (after ≡ before)
Does stop_is.Over old new before after (Over how st) = (new ≡ old) × (after ≡ before)
Does stop old new before after next = ⊥

-- a machine that is where a step goes on to, and has told what the step tells
abbrev pub Tells : List What → List What → Config → Next → Type 0
Tells old new c (Goes es d) = (new ≡ old ++ es) × (c ≡ d)
Tells old new c next = ⊥
