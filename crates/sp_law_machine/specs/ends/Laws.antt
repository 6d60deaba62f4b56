-- That runs of the plain machine end.
use Rattle.std.specs.Prelude.{◌≡◌, ℕ, ◌<◌, ◌≤◌, Bool, List, length, slice_get}
use Rattle.sp_base.specs.Input.{Close}
use Rattle.sp_events.specs.declared.event.What.{What}
use Rattle.sp_meaning_states.specs.Reads.{Verdict, reads}
use Rattle.sp_code.specs.Machine.{Plain, Config, Goes, step}
use Rattle.sp_code.specs.Runs.{Comes}
use Rattle.sp_code.specs.Turns.{edges, AreLower, Turns}
use Rattle.sp_law_machine.specs.continues.Windows.{reads_window, From}
use Rattle.sp_law_machine.specs.ends.Ending.{height_of, steps_left, whole, CanAct, Stops}

-- In a program in which each cycle counts a turn, the heights that are computed from its code fall along all that an instruction leads
-- to without a turn, and are at most the number of instructions.
abbrev pub HeightsFall : Type 0
HeightsFall = (p : Plain) → Turns p → (pc : ℕ) → AreLower (height_of p) (height_of p pc) (edges (slice_get p.code pc) pc) × (height_of p pc ≤ length p.code)

-- A step that goes on leaves fewer steps, if the instruction at hand can act.
abbrev pub StepsFall : Type 0
StepsFall =
    (p : Plain) → Turns p → (verdict : ℕ → List ℕ → Bool → Verdict) (s : List ℕ) (close : Close) (c d : Config) (es : List What) →
    CanAct p c → step p (reads verdict s close) c ≡ Goes es d → steps_left p s d < steps_left p s c

-- So does a step of a machine that is lent only the bytes of its input from a base on, where no place at which it may still look is
-- before the base.
abbrev pub WindowStepsFall : Type 0
WindowStepsFall =
    (p : Plain) → Turns p → (verdict : ℕ → List ℕ → Bool → Verdict) (base : ℕ) (bytes : List ℕ) (close : Close) (c d : Config) (es : List What) → From base c →
    CanAct p c → step p (reads_window verdict base bytes close) c ≡ Goes es d → steps_left p (whole base bytes) d < steps_left p (whole base bytes) c

-- The machine comes from a configuration to a wait or to the end of all, if each instruction to which it comes from there can act.
abbrev pub RunsEnd : Type 0
RunsEnd =
    (p : Plain) → Turns p → (verdict : ℕ → List ℕ → Bool → Verdict) (s : List ℕ) (close : Close) (c : Config) →
    ((d : Config) (es : List What) → Comes p (reads verdict s close) c es d → CanAct p d) → Stops p (reads verdict s close) c
