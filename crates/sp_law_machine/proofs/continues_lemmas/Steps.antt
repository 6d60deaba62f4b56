-- A step over an input that is held open is the same step over what continues it, and so are many steps.
use Rattle.std.proofs.Common.{◌≡◌, ℕ, List, ◌++◌, Option, Some, refl, ap, ◌∙◌}
use Rattle.std.specs.Prelude.{slice_get}
use Rattle.sp_base.specs.Input.{held_open}
use Rattle.sp_events.specs.declared.event.What.{What}
use Rattle.sp_value.specs.Val.{Val}
use Rattle.sp_meaning_states.specs.States.{Reading, State}
use Rattle.sp_meaning_states.specs.Reads.{Ask, Bytes, Read, Got, Lacks, Shorts, NoWord, reads}
use Rattle.sp_meaning_states.specs.Types.{width_bytes}
use Rattle.sp_code.specs.declared.instr.Instr.{Instr}
use Rattle.sp_code.specs.declared.instr.Instr.TheVariants.{ReadInt}
use Rattle.sp_code.specs.Machine.{Frame, Plain, Config, At, Ending, Next, Goes, Waits, Over, read_next, act, step}
use Rattle.sp_code.specs.Runs.{here, next}
use Rattle.sp_law_machine.specs.continues.Laws.{IsLack, IsWait, StepsContinue, RunsContinue}
use Rattle.sp_law_machine.proofs.continues_lemmas.Questions.{reads_continue}

next_agrees : (x y : Read) (good : ℕ → ℕ → List ℕ → Next) (otherwise : Next) (fs : List Frame) (st : State) → ((IsLack x → ⊥) → y ≡ x)
    → (IsWait (read_next x good otherwise fs st) → ⊥) → read_next y good otherwise fs st ≡ read_next x good otherwise fs st
next_agrees (Got t n bs) y good otherwise fs st same h = ap (λ z. read_next z good otherwise fs st) (same (λ z. z))
next_agrees (Lacks m) y good otherwise fs st same h = absurd (h tt)
next_agrees (Shorts overs) y good otherwise fs st same h = ap (λ z. read_next z good otherwise fs st) (same (λ z. z))
next_agrees NoWord y good otherwise fs st same h = ap (λ z. read_next z good otherwise fs st) (same (λ z. z))

-- where the second function reads what the first one reads, unless bytes lack
module _ (p : Plain) (first second : Reading → Ask → Read) (same : (r : Reading) (a : Ask) → (IsLack (first r a) → ⊥) → second r a ≡ first r a) where
  act_agrees : (o : Option Instr) (pc : ℕ) (vs : List Val) (fs : List Frame) (st : State) → (IsWait (act p first o pc vs fs st) → ⊥) → act p second o pc vs fs st ≡ act p first o pc vs fs st
  act_agrees (Some (ReadInt form)) pc vs fs st h =
      let a = Bytes (width_bytes form.width) in
      next_agrees (first st.now a) (second st.now a) _ _ fs st (same st.now a) h
  act_agrees _ pc vs fs st h = refl

  step_agrees : (c : Config) → (IsWait (step p first c) → ⊥) → step p second c ≡ step p first c
  step_agrees (At pc vs fs st) h = act_agrees (slice_get p.code pc) pc vs fs st h
  step_agrees (Ending how fs st) h = refl

pub steps_continue : StepsContinue
steps_continue p verdict steady s t close c h = step_agrees p (reads verdict s held_open) (reads verdict (s ++ t) close) (reads_continue verdict steady s t close) c h

goes_on : (x : Next) (es : List What) (d : Config) → x ≡ Goes es d → IsWait x → ⊥
goes_on (Goes fs c) es d e h = h
goes_on (Waits m) es d e h = unlike e
  where
    unlike : Waits m ≡ Goes es d → ⊥
    unlike e = cc
goes_on (Over how st) es d e h = h

pub runs_continue : RunsContinue
runs_continue p verdict steady s t close c d es here = here
runs_continue p verdict steady s t close c d es (next {d = e} {es = fs} {fs = gs} one rest) =
    next (steps_continue p verdict steady s t close c (goes_on _ fs e one) ∙ one) (runs_continue p verdict steady s t close e d gs rest)
