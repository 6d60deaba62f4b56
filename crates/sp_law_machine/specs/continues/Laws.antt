-- What is read and done over an input that is held open, and over what continues it.
use Rattle.std.specs.Prelude.{◌≡◌, ◌≤◌, ℕ, Bool, false, List, ◌++◌, length}
use Rattle.sp_base.specs.Input.{Close, held_open}
use Rattle.sp_events.specs.declared.event.What.{What}
use Rattle.sp_meaning_states.specs.States.{Reading}
use Rattle.sp_meaning_states.specs.Reads.{Ask, Read, Lacks, Verdict, Grows, Match, reads}
use Rattle.sp_code.specs.Machine.{Plain, Config, Next, Waits, step}
use Rattle.sp_code.specs.Runs.{Comes}

-- What a set of tokens says of the bytes at a place, once it doesn't ask for more of them, stays where more bytes follow and where
-- the input is ended. A token that matches stands within the bytes.
pub record IsSteady (verdict : ℕ → List ℕ → Bool → Verdict) : Type 0 where
  pub stays : (set : ℕ) (w t : List ℕ) (over : Bool) → (verdict set w false ≡ Grows → ⊥) → verdict set (w ++ t) over ≡ verdict set w false
  pub fits : (set : ℕ) (w : List ℕ) (over : Bool) (token n : ℕ) → verdict set w over ≡ Match token n → n ≤ length w

-- bytes lack
abbrev pub IsLack : Read → Type 0
IsLack (Lacks m) = Unit {0}
IsLack x = ⊥

-- a step that waits for more of the input
abbrev pub IsWait : Next → Type 0
IsWait (Waits m) = Unit {0}
IsWait x = ⊥

-- What is read of an input that is held open, unless bytes lack, is read of each continuation of it, whatever is asked.
abbrev pub ReadsContinue : Type 0
ReadsContinue =
    (verdict : ℕ → List ℕ → Bool → Verdict) → IsSteady verdict → (s t : List ℕ) (close : Close) (r : Reading) (a : Ask) → (IsLack (reads verdict s held_open r a) → ⊥) →
    reads verdict (s ++ t) close r a ≡ reads verdict s held_open r a

-- A step over an input that is held open, unless it waits, is the same step over each continuation of it.
abbrev pub StepsContinue : Type 0
StepsContinue =
    (p : Plain) (verdict : ℕ → List ℕ → Bool → Verdict) → IsSteady verdict → (s t : List ℕ) (close : Close) (c : Config) → (IsWait (step p (reads verdict s held_open) c) → ⊥) →
    step p (reads verdict (s ++ t) close) c ≡ step p (reads verdict s held_open) c

-- What the machine has done over an input that is held open, it does over each continuation of it, and tells the same.
abbrev pub RunsContinue : Type 0
RunsContinue =
    (p : Plain) (verdict : ℕ → List ℕ → Bool → Verdict) → IsSteady verdict → (s t : List ℕ) (close : Close) (c d : Config) (es : List What) →
    Comes p (reads verdict s held_open) c es d → Comes p (reads verdict (s ++ t) close) c es d
