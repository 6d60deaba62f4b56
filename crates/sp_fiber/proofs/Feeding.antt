-- What further pieces and the end of the input make of what a fiber stands for.
use Rattle.std.proofs.Common.{◌≡◌, ℕ, ◌+◌, true, false, List, [], ◌++◌, length, refl, sym, ◌∙◌, subst, arith, append_assoc, append-nil, length-append}
use Rattle.sp_base.specs.Input.{Close, held_open, ended}
use Rattle.sp_events.specs.declared.event.What.{What}
use Rattle.sp_window.specs.Windows.{Held}
use Rattle.sp_meaning_states.specs.States.{Main, Reading, State, End}
use Rattle.sp_meaning_states.specs.Reads.{Ask, Bytes, Read, Grows, Match, is_ended, seen_from}
use Rattle.sp_code.specs.Machine.{Plain, Config, Next, Over, step}
use Rattle.sp_code.specs.Runs.{Comes, here, next}
use Rattle.sp_law_machine.specs.continues.Laws.{IsSteady, IsWait}
use Rattle.sp_law_machine.proofs.continues_lemmas.Steps.{steps_continue, runs_continue}
use Rattle.sp_machine.specs.declared.machine.Machine.{Machine}
use Rattle.sp_machine.specs.Plain.{reading_of, plain, no_tokens}
use Rattle.sp_machine.specs.Safe.{IsSafe}
use Rattle.sp_fiber.specs.declared.phase.Phase.{Phase}
use Rattle.sp_fiber.specs.declared.phase.Phase.TheVariants as phase_is
use Rattle.sp_fiber.specs.declared.stand.Stand.{Stand}
use Rattle.sp_fiber.specs.declared.stand.Stand.TheVariants as stand_is
use Rattle.sp_fiber.specs.Moves.{whole_reads, Holds, IsWaiting, IsOver, Moved}
use Rattle.sp_fiber.specs.Fibers.{Suspended, WillRun, IsReady, IsLive, StandsFor, EndedFor, HasRun, Fed, Closed}
use Rattle.sp_fiber.specs.Standing.{IsOfMode, IsStand}
use Rattle.sp_fiber.proofs.Marks.{IsHere, seen_here}
use Rattle.sp_fiber.proofs.Machines.{stands_over}

-- a fiber by its parts
abbrev pub suspended : Plain → Phase → Held → Config → ℕ → Suspended
suspended p phase w c n = record { code = p; phase = phase; window = w; at = c; received = n }

-- no token is found where none is asked for
steady : IsSteady no_tokens
steady = record { stays = λ set w t over told. absurd (told refl); fits = λ set w over token n e. absurd (let q : Grows ≡ Match token n = e in cc) }

then_comes : (p : Plain) (reads : Reading → Ask → Read) (c d e : Config) (es fs : List What) → Comes p reads c es d → Comes p reads d fs e → Comes p reads c (es ++ fs) e
then_comes p reads c _ e _ fs here g = g
then_comes p reads c d e _ fs (next {es = gs} {fs = hs} one rest) g = subst (λ l. Comes p reads c l e) (sym (append_assoc gs hs fs)) (next one (then_comes p reads _ d e hs fs rest g))

-- so what is told adds up over more of the input
comes_more : (p : Plain) (s t : List ℕ) (close : Close) (c d e : Config) (es fs : List What) → Comes p (whole_reads s held_open) c es d → Comes p (whole_reads (s ++ t) close) d fs e → Comes p (whole_reads (s ++ t) close) c (es ++ fs) e
comes_more p s t close c d e es fs a b = then_comes p (whole_reads (s ++ t) close) c d e es fs (runs_continue p no_tokens steady s t close c d es a) b

-- all stays over
over_unlike : (x : Next) (how : End) (st : State) → x ≡ Over how st → IsWait x → ⊥
over_unlike x how st e w = subst IsWait e w

over_more : (p : Plain) (s t : List ℕ) (close : Close) (w : Held) (c : Config) → IsOver p held_open w c s → IsOver p close w c (s ++ t)
over_more p s t close w c h =
    record { how = h.how; state = h.state; over = steps_continue p no_tokens steady s t close c (over_unlike (step p (whole_reads s held_open) c) h.how h.state h.over) ∙ h.over; empty = h.empty }

-- a fiber whose machine will run again, or hasn't run
live_holds : (phase : Phase) (p : Plain) (w : Held) (from at : Config) (s : List ℕ) (es : List What) → WillRun phase → IsLive phase p w from at s es → Holds w at s
live_holds phase_is.Fresh p w from at s es r live = subst (λ l. Holds w at l) (sym live.0) live.3
live_holds phase_is.Waiting p w from at s es r live = live.1.holds
live_holds phase_is.Over p w from at s es r live = absurd r
live_holds phase_is.Ended p w from at s es r live = absurd r
live_holds phase_is.Broken p w from at s es r live = absurd r

live_comes : (phase : Phase) (p : Plain) (w : Held) (from at : Config) (s : List ℕ) (es : List What) → WillRun phase → IsLive phase p w from at s es → Comes p (whole_reads s held_open) from es at
live_comes phase_is.Fresh p w from at s es r live =
    subst (λ d. Comes p (whole_reads s held_open) from es d) (sym live.2) (subst (λ l. Comes p (whole_reads s held_open) from l from) (sym live.1) here)
live_comes phase_is.Waiting p w from at s es r live = live.0
live_comes phase_is.Over p w from at s es r live = absurd r
live_comes phase_is.Ended p w from at s es r live = absurd r
live_comes phase_is.Broken p w from at s es r live = absurd r

-- its machine is safe
pub ready_safe : (phase : Phase) (p : Plain) (w : Held) (c : Config) → WillRun phase → IsReady phase p w c → IsSafe p w c
ready_safe phase_is.Fresh p w c r h = h
ready_safe phase_is.Waiting p w c r h = h
ready_safe phase_is.Over p w c r h = absurd r
ready_safe phase_is.Ended p w c r h = absurd r
ready_safe phase_is.Broken p w c r h = absurd r

pub stands_hold : (f : Suspended) (from : Config) (s : List ℕ) (es : List What) → WillRun f.phase → StandsFor f from s es → Holds f.window f.at s
stands_hold f from s es r h = live_holds f.phase f.code f.window from f.at s es r h.live

-- what a further piece makes of it
pub fed_over : (f g : Suspended) (from : Config) (s piece : List ℕ) (es before after : List What) → WillRun f.phase → StandsFor f from s es → Moved f.code held_open (s ++ piece) before after f.at g.at g.window true
    → g.phase ≡ phase_is.Over → g.received ≡ f.received + length piece → g.code ≡ f.code → Fed g from (s ++ piece) es before after
fed_over f g from s piece es before after r h moved phase received code =
    let counted = h.counted in
    let comes = comes_more f.code s piece held_open from f.at g.at es moved.events (live_comes f.phase f.code f.window from f.at s es r h.live) moved.comes in
    record {
      events = moved.events;
      told = moved.told;
      run = subst HasRun (sym phase) tt;
      stands =
          record {
            live = subst (λ x. IsLive x g.code g.window from g.at (s ++ piece) (es ++ moved.events)) (sym phase)
                (subst (λ p. IsLive phase_is.Over p g.window from g.at (s ++ piece) (es ++ moved.events)) (sym code) (comes, moved.stopped));
            counted = omega (arith, received, counted, length-append s piece);
          };
    }

pub fed_waits : (f g : Suspended) (from : Config) (s piece : List ℕ) (es before after : List What) → WillRun f.phase → StandsFor f from s es → Moved f.code held_open (s ++ piece) before after f.at g.at g.window false
    → g.phase ≡ phase_is.Waiting → g.received ≡ f.received + length piece → g.code ≡ f.code → Fed g from (s ++ piece) es before after
fed_waits f g from s piece es before after r h moved phase received code =
    let counted = h.counted in
    let comes = comes_more f.code s piece held_open from f.at g.at es moved.events (live_comes f.phase f.code f.window from f.at s es r h.live) moved.comes in
    record {
      events = moved.events;
      told = moved.told;
      run = subst HasRun (sym phase) tt;
      stands =
          record {
            live = subst (λ x. IsLive x g.code g.window from g.at (s ++ piece) (es ++ moved.events)) (sym phase)
                (subst (λ p. IsLive phase_is.Waiting p g.window from g.at (s ++ piece) (es ++ moved.events)) (sym code) (comes, moved.stopped));
            counted = omega (arith, received, counted, length-append s piece);
          };
    }

-- and of one at which all is over
pub fed_again : (f g : Suspended) (from : Config) (s piece : List ℕ) (es told : List What) → f.phase ≡ phase_is.Over → StandsFor f from s es → g ≡ record f { received = f.received + length piece } → Fed g from (s ++ piece) es told told
fed_again f g from s piece es told phase h same =
    let counted = h.counted in
    let live = subst (λ x. IsLive x f.code f.window from f.at s es) phase h.live in
    let comes = subst (λ l. Comes f.code (whole_reads (s ++ piece) held_open) from l f.at) (sym (append-nil es)) (runs_continue f.code no_tokens steady s piece held_open from f.at es live.0) in
    subst (λ g. Fed g from (s ++ piece) es told told) (sym same)
    (record {
      events = [];
      told = sym (append-nil told);
      run = subst HasRun (sym phase) tt;
      stands =
          record {
            live = subst (λ x. IsLive x f.code f.window from f.at (s ++ piece) (es ++ [])) (sym phase) (comes, over_more f.code s piece held_open f.window f.at live.1);
            counted = omega (arith, counted, length-append s piece);
          };
    })

pub ended_again : (f g : Suspended) (from : Config) (s : List ℕ) (es : List What) (n : ℕ) → EndedFor f from s es → g ≡ record f { received = n } → EndedFor g from s es
ended_again f g from s es n h same = subst (λ g. EndedFor g from s es) (sym same) (record { phase = h.phase; comes = h.comes; over = h.over })

-- what the end of the input makes of it
pub closed_by : (f g : Suspended) (from : Config) (s : List ℕ) (es before after : List What) → WillRun f.phase → StandsFor f from s es → Moved f.code ended s before after f.at g.at g.window true
    → g.phase ≡ phase_is.Ended → g.code ≡ f.code → Closed g from s es before after
closed_by f g from s es before after r h moved phase code =
    let run = live_comes f.phase f.code f.window from f.at s es r h.live in
    let more = runs_continue f.code no_tokens steady s [] ended from f.at es run in
    let front = subst (λ l. Comes f.code (whole_reads l ended) from es f.at) (append-nil s) more in
    let comes = then_comes f.code (whole_reads s ended) from f.at g.at es moved.events front moved.comes in
    record {
      events = moved.events;
      told = moved.told;
      stands =
          record {
            phase = phase;
            comes = subst (λ p. Comes p (whole_reads s ended) from (es ++ moved.events) g.at) (sym code) comes;
            over = subst (λ p. IsOver p ended g.window g.at s) (sym code) moved.stopped;
          };
    }

pub closed_again : (f g : Suspended) (from : Config) (s : List ℕ) (es told : List What) → f.phase ≡ phase_is.Over → StandsFor f from s es → g ≡ record f { phase = phase_is.Ended } → Closed g from s es told told
closed_again f g from s es told phase h same =
    let live = subst (λ x. IsLive x f.code f.window from f.at s es) phase h.live in
    let more = runs_continue f.code no_tokens steady s [] ended from f.at es live.0 in
    let comes = subst (λ l. Comes f.code (whole_reads l ended) from es f.at) (append-nil s) more in
    let over = subst (λ l. IsOver f.code ended f.window f.at l) (append-nil s) (over_more f.code s [] ended f.window f.at live.1) in
    subst (λ g. Closed g from s es told told) (sym same)
    (record {
      events = [];
      told = sym (append-nil told);
      stands = record { phase = refl; comes = subst (λ l. Comes f.code (whole_reads s ended) from l f.at) (sym (append-nil es)) comes; over = over };
    })

-- how a fiber stands at which all is over, and one that waits
whole_here : (s : List ℕ) (close : Close) (m : Machine) (n : ℕ) → IsHere (is_ended close) m.place (whole_reads s close (reading_of m) (Bytes n))
whole_here s close m n = seen_here (seen_from s close Main m.place []) m.place n

pub stands_ended : (p : Plain) (close : Close) (w : Held) (m : Machine) (s : List ℕ) (stand : Stand) → IsOver p close w (plain m) s → IsOfMode stand m.mode → IsStand stand (step p (whole_reads s close) (plain m))
stands_ended p close w m s stand h i = stands_over p (whole_reads s close) (is_ended close) m (whole_here s close m) stand h.how h.state i h.over

pub stands_waiting : (p : Plain) (close : Close) (w : Held) (c : Config) (s : List ℕ) → IsWaiting p close w c s → IsStand stand_is.Waiting (step p (whole_reads s close) c)
stands_waiting p close w c s h = subst (IsStand stand_is.Waiting) (sym h.waits) tt
