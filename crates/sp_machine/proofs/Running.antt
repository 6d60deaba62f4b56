-- Runs of a machine, put together of its steps.
use Rattle.std.proofs.Common.{◌≡◌, ◌<◌, ℕ, suc, List, [], ◌∷◌, ◌++◌, Result, Ok, Err, refl, sym, ap, ◌∙◌, subst, append-nil, append_assoc, arith}
use Rattle.std.specs.Prelude.{Bool, IfOk}
use Rattle.sp_events.specs.declared.event.What.{What}
use Rattle.sp_window.specs.Windows.{Held}
use Rattle.sp_meaning_states.specs.States.{Reading}
use Rattle.sp_meaning_states.specs.Reads.{Ask, Read}
use Rattle.sp_code.specs.Machine.{Plain, Config, At, Ending, Next, Goes, Waits, Over, step}
use Rattle.sp_code.specs.Turns.{Turns}
use Rattle.sp_code.specs.Runs.{Comes, here, next}
use Rattle.sp_law_machine.specs.keeps.Laws.{IsKept}
use Rattle.sp_law_machine.proofs.keeps_lemmas.Kept.{steps_keep, instructions_can}
use Rattle.sp_law_machine.specs.continues.Windows.{reads_window}
use Rattle.sp_law_machine.proofs.continues_lemmas.Marks.{windows_run}
use Rattle.sp_law_machine.specs.ends.Ending.{steps_left, whole, CanAct}
use Rattle.sp_law_machine.proofs.ends_lemmas.Windows.{base_is_within, window_of_whole, window_steps_fall}
use Rattle.sp_machine.specs.declared.machine.Stop.{Stop}
use Rattle.sp_machine.specs.declared.machine.Stop.TheVariants as stop_is
use Rattle.sp_machine.specs.Plain.{no_tokens, close_of, reads_of, Leads, Does}
use Rattle.sp_machine.specs.Safe.{IsSafe}
use Rattle.sp_machine.specs.declared.in_place.Slot.{Slot}
use Rattle.sp_machine.specs.InPlace.{IsStored, IsPut, behind, with_slot}
use Rattle.sp_machine.specs.Ran.{Came, IsStop, Ran, Advanced}
use Rattle.sp_machine.proofs.InPlace.{stores}

-- one more step
further : (p : Plain) (reads : Reading → Ask → Read) (c d e : Config) (es fs : List What) → Comes p reads c es d → step p reads d ≡ Goes fs e → Comes p reads c (es ++ fs) e
further p reads c _ e _ fs here h = subst (λ l. Comes p reads c l e) (append-nil fs) (next h here)
further p reads c d e _ fs (next {es = gs} {fs = hs} g rest) h = subst (λ l. Comes p reads c l e) (sym (append_assoc gs hs fs)) (next g (further p reads _ d e hs fs rest h))

-- one run behind another
then_comes : (p : Plain) (reads : Reading → Ask → Read) (c d e : Config) (es fs : List What) → Comes p reads c es d → Comes p reads d fs e → Comes p reads c (es ++ fs) e
then_comes p reads c _ e _ fs here h = h
then_comes p reads c d e _ fs (next {es = gs} {fs = hs} g rest) h = subst (λ l. Comes p reads c l e) (sym (append_assoc gs hs fs)) (next g (then_comes p reads _ d e hs fs rest h))

-- where a step went
record Went (old new : List What) (after : Config) (n : Next) : Type 0 where
  events : List What
  to : Config
  goes : n ≡ Goes events to
  told : new ≡ old ++ events
  is : after ≡ to

went : (old new : List What) (before after : Config) (n : Next) → Does stop_is.GoesOn old new before after n → Went old new after n
went old new before after (Goes es d) h = record { events = es; to = d; goes = refl; told = h.0; is = h.1 }
went old new before after (Waits m) h = absurd h
went old new before after (Over how st) h = absurd h

module _ (p : Plain) (w : Held) (is_ended : Bool) where
  pub safe_on : (c d : Config) (es : List What) → IsSafe p w c → step p (reads_of w is_ended) c ≡ Goes es d → IsSafe p w d
  safe_on c d es h e =
      let s = whole w.base w.bytes in
      let one : Comes p (reads_of w is_ended) c (es ++ []) d = next e here in
      let lent = subst (λ b. Comes p (reads_window no_tokens w.base b (close_of is_ended)) c (es ++ []) d) (sym (window_of_whole w.base w.bytes)) one in
      record {
        shapes = h.shapes;
        sound = h.sound;
        shaped = subst (IsKept p h.shapes) e (steps_keep p h.shapes (reads_of w is_ended) h.sound c h.shaped);
        from = (windows_run p no_tokens w.base s (close_of is_ended) c d (es ++ []) (base_is_within w.base w.bytes) h.from lent).1;
      }

  can_act : (c : Config) → IsSafe p w c → CanAct p c
  can_act (At pc vs fs st) h = instructions_can p h.shapes h.sound pc vs fs st h.shaped
  can_act (Ending how fs st) h = tt

  falls_on : Turns p → (c d : Config) (es : List What) → IsSafe p w c → step p (reads_of w is_ended) c ≡ Goes es d → steps_left p (whole w.base w.bytes) d < steps_left p (whole w.base w.bytes) c
  falls_on turns c d es h e = window_steps_fall p turns no_tokens w.base w.bytes (close_of is_ended) c d es h.from (can_act c h) e

  -- a machine that hasn't begun to run
  pub not_yet : (old : List What) (c : Config) → IsSafe p w c → Came p (reads_of w is_ended) w old old c c
  not_yet old c h = record { events = []; told = sym (append-nil old); comes = here; safe = h }

  -- one more step of the machine
  pub came_on : (start old new : List What) (c before after : Config) → Came p (reads_of w is_ended) w start old c before → Does stop_is.GoesOn old new before after (step p (reads_of w is_ended) before)
      → Came p (reads_of w is_ended) w start new c after
  came_on start old new c before after h g =
      let x = went old new before after (step p (reads_of w is_ended) before) g in
      let e = subst (λ d. step p (reads_of w is_ended) before ≡ Goes x.events d) (sym x.is) x.goes in
      record {
        events = h.events ++ x.events;
        told = x.told ∙ ap (λ l. l ++ x.events) h.told ∙ append_assoc start h.events x.events;
        comes = further p (reads_of w is_ended) c before after h.events x.events h.comes e;
        safe = safe_on before after x.events h.safe e;
      }

  pub fewer_left : Turns p → (old new : List What) (before after : Config) → IsSafe p w before → Does stop_is.GoesOn old new before after (step p (reads_of w is_ended) before)
      → steps_left p (whole w.base w.bytes) after < steps_left p (whole w.base w.bytes) before
  fewer_left turns old new before after h g =
      let x = went old new before after (step p (reads_of w is_ended) before) g in
      falls_on turns before after x.events h (subst (λ d. step p (reads_of w is_ended) before ≡ Goes x.events d) (sym x.is) x.goes)

  -- where it doesn't go on
  stays : (stop : Stop) (old new : List What) (before after : Config) (n : Next) → (stop ≡ stop_is.GoesOn → ⊥) → Does stop old new before after n → (new ≡ old) × (after ≡ before) × IsStop stop n
  stays stop_is.GoesOn old new before after n isnt h = absurd (isnt refl)
  stays stop_is.Need old new before after (Waits m) isnt h = (h.0, h.1, tt)
  stays stop_is.Need old new before after (Goes es d) isnt h = absurd h
  stays stop_is.Need old new before after (Over how st) isnt h = absurd h
  stays stop_is.Over old new before after (Over how st) isnt h = (h.0, h.1, tt)
  stays stop_is.Over old new before after (Goes es d) isnt h = absurd h
  stays stop_is.Over old new before after (Waits m) isnt h = absurd h

  does_not_go_on : (stop : Stop) (old new : List What) (before after : Config) → (stop ≡ stop_is.GoesOn → ⊥) → Advanced p (reads_of w is_ended) w old new before after stop
      → Does stop old new before after (step p (reads_of w is_ended) before)
  does_not_go_on stop_is.GoesOn old new before after isnt h = absurd (isnt refl)
  does_not_go_on stop_is.Need old new before after isnt h = h
  does_not_go_on stop_is.Over old new before after isnt h = h

  pub ran : (stop : Stop) (start old new : List What) (c before after : Config) → (stop ≡ stop_is.GoesOn → ⊥) → Came p (reads_of w is_ended) w start old c before
      → Advanced p (reads_of w is_ended) w old new before after stop → Ran p (reads_of w is_ended) w start new c after stop
  ran stop start old new c before after isnt h g =
      let x = stays stop old new before after (step p (reads_of w is_ended) before) isnt (does_not_go_on stop old new before after isnt g) in
      record {
        came = subst (λ l. Came p (reads_of w is_ended) w start l c after) (sym x.0) (subst (λ d. Came p (reads_of w is_ended) w start old c d) (sym x.1) h);
        stops = subst (λ d. IsStop stop (step p (reads_of w is_ended) d)) (sym x.1) x.2;
      }

  -- a further stretch of the run
  pub came_both : (start old new : List What) (c before after : Config) → Came p (reads_of w is_ended) w start old c before → Came p (reads_of w is_ended) w old new before after
      → Came p (reads_of w is_ended) w start new c after
  came_both start old new c before after h g =
      record {
        events = h.events ++ g.events;
        told = g.told ∙ ap (λ l. l ++ g.events) h.told ∙ append_assoc start h.events g.events;
        comes = then_comes p (reads_of w is_ended) c before after h.events g.events h.comes g.comes;
        safe = g.safe;
      }

  -- one step is a turn
  pub advanced : Turns p → (stop : Stop) (old new : List What) (before after : Config) → IsSafe p w before → Does stop old new before after (step p (reads_of w is_ended) before)
      → Advanced p (reads_of w is_ended) w old new before after stop
  advanced turns stop_is.GoesOn old new before after safe h = (came_on old old new before before after (not_yet old before safe) h, fewer_left turns old new before after safe h)
  advanced turns stop_is.Need old new before after safe h = h
  advanced turns stop_is.Over old new before after safe h = h

  pub advanced_ok : {E : Type 0} (r : Result Stop E) → Turns p → (old new : List What) (before after : Config) → IsSafe p w before → IfOk r (λ stop. Does stop old new before after (step p (reads_of w is_ended) before))
      → IfOk r (Advanced p (reads_of w is_ended) w old new before after)
  advanced_ok (Ok stop) turns old new before after safe h = advanced turns stop old new before after safe h
  advanced_ok (Err e) turns old new before after safe h = h

  -- so is one that tells nothing
  pub advanced_alone : Turns p → (old : List What) (before after : Config) (n : Next) → IsSafe p w before → step p (reads_of w is_ended) before ≡ n → Leads after n
      → Advanced p (reads_of w is_ended) w old old before after stop_is.GoesOn
  advanced_alone turns old before after (Goes es d) safe e h =
      advanced turns stop_is.GoesOn old old before after safe (subst (Does stop_is.GoesOn old old before after) (sym e) (sym (append-nil old) ∙ ap (λ l. old ++ l) (sym h.0), h.1))
  advanced_alone turns old before after (Waits m) safe e h = absurd h
  advanced_alone turns old before after (Over how st) safe e h = absurd h

  -- some steps, behind which no more are left
  came_along : Turns p → (old : List What) (c d : Config) (es : List What) → IsSafe p w c → Comes p (reads_of w is_ended) c es d
      → IsSafe p w d × (steps_left p (whole w.base w.bytes) d < suc (steps_left p (whole w.base w.bytes) c))
  came_along turns old c _ _ safe here = (safe, omega arith)
  came_along turns old c d _ safe (next {d = b} {es = es} {fs = fs} g rest) =
      let fewer = falls_on turns c b es safe g in
      let h = came_along turns old b d fs (safe_on c b es safe g) rest in
      let less = h.1 in
      (h.0, omega (arith, fewer, less))

  -- so is a step and those that store what it gives
  pub advanced_put : Turns p → (slot : Slot) (at : ℕ) (old : List What) (before after : Config) (n : Next) → IsSafe p w before → step p (reads_of w is_ended) before ≡ n → IsStored p.code at slot → IsPut slot at n after
      → Advanced p (reads_of w is_ended) w old old before after stop_is.GoesOn
  advanced_put turns slot at old before after (Goes [] (At pc (v ∷ vs) fs st)) safe e stored put =
      let there = At (behind slot at) vs fs (with_slot slot v st) in
      let one = subst (λ q. step p (reads_of w is_ended) before ≡ Goes [] (At q (v ∷ vs) fs st)) put.0 e in
      let rest = stores p (reads_of w is_ended) slot at v vs fs st stored put.1 in
      let fewer = falls_on turns before (At at (v ∷ vs) fs st) [] safe one in
      let h = came_along turns old (At at (v ∷ vs) fs st) there [] (safe_on before (At at (v ∷ vs) fs st) [] safe one) rest in
      let less = h.1 in
      subst (λ d. Advanced p (reads_of w is_ended) w old old before d stop_is.GoesOn) (sym put.2) (record { events = []; told = sym (append-nil old); comes = next one rest; safe = h.0 }, omega (arith, fewer, less))
  advanced_put turns slot at old before after (Goes [] (Ending how fs st)) safe e stored put =
      subst (λ d. Advanced p (reads_of w is_ended) w old old before d stop_is.GoesOn) (sym put) (advanced turns stop_is.GoesOn old old before (Ending how fs st) safe (subst (Does stop_is.GoesOn old old before (Ending how fs st)) (sym e) (sym (append-nil old), refl)))
  advanced_put turns slot at old before after _ safe e stored put = absurd put

  -- a step before others
  pub further_on : Turns p → (old : List What) (before mid after : Config) → IsSafe p w before → step p (reads_of w is_ended) before ≡ Goes [] mid → Advanced p (reads_of w is_ended) w old old mid after stop_is.GoesOn
      → Advanced p (reads_of w is_ended) w old old before after stop_is.GoesOn
  further_on turns old before mid after safe e h =
      let first : Came p (reads_of w is_ended) w old old before mid = record { events = []; told = sym (append-nil old); comes = next e here; safe = safe_on before mid [] safe e } in
      let fewer = falls_on turns before mid [] safe e in
      let less = h.1 in
      (came_both old old old before mid after first h.0, omega (arith, fewer, less))
