-- Each run ends, since each step leaves fewer.
use Rattle.std.proofs.Common.{◌≡◌, ℕ, zero, suc, ◌<◌, Bool, List, refl, sym, subst, arith}
use Rattle.sp_base.specs.Input.{Close}
use Rattle.sp_events.specs.declared.event.What.{What}
use Rattle.sp_meaning_states.specs.Reads.{Verdict, reads}
use Rattle.sp_code.specs.Machine.{Plain, Config, Next, Goes, Waits, Over, step}
use Rattle.sp_code.specs.Runs.{Comes, here, next}
use Rattle.sp_code.specs.Turns.{Turns}
use Rattle.sp_law_machine.specs.ends.Ending.{steps_left, CanAct, IsStop, Stops}
use Rattle.sp_law_machine.specs.ends.Laws.{RunsEnd}
use Rattle.sp_law_machine.proofs.ends_lemmas.Falls.{steps_fall}

module _ (p : Plain) (turns : Turns p) (verdict : ℕ → List ℕ → Bool → Verdict) (s : List ℕ) (close : Close) where
  abbrev next_of : Config → Next
  next_of c = step p (reads verdict s close) c

  abbrev Ends : Config → Type 0
  Ends c = Stops p (reads verdict s close) c

  by_step : (c : Config) (x : Next) → next_of c ≡ x → ((d : Config) (es : List What) → next_of c ≡ Goes es d → Ends d) → Ends c
  by_step c (Goes es d) e rest = let r = rest d es e in record { events = _; last = r.last; comes = next e r.comes; stops = r.stops }
  by_step c (Waits m) e rest = record { events = _; last = c; comes = here; stops = subst IsStop (sym e) tt }
  by_step c (Over how st) e rest = record { events = _; last = c; comes = here; stops = subst IsStop (sym e) tt }

  -- where no step leaves a set of configurations, and each can act, each run from one of them ends
  module _ (Good : Config → Type 0) (can : (c : Config) → Good c → CanAct p c) (stays : (c d : Config) (es : List What) → Good c → next_of c ≡ Goes es d → Good d) where
    below : (n : ℕ) (c : Config) → steps_left p s c < n → Good c → Ends c
    below zero c l g = absurd (omega arith)
    below (suc n) c l g =
        by_step c (next_of c) refl (λ d es e. let f = steps_fall p turns verdict s close c d es (can c g) e in below n d (omega arith) (stays c d es g e))

    pub good_runs_end : (c : Config) → Good c → Ends c
    good_runs_end c g = below (suc (steps_left p s c)) c (omega arith) g

pub runs_end : RunsEnd
runs_end p turns verdict s close c can =
    good_runs_end p turns verdict s close (λ d. (e : Config) (es : List What) → Comes p (reads verdict s close) d es e → CanAct p e)
    (λ d g. g d _ here)
    (λ d e es g step f fs comes. g f _ (next step comes))
    c can
