-- What a machine does over its window it does over the whole input; and it needs no byte before its least place where it waits.
use Rattle.std.proofs.Common.{◌≡◌, ℕ, ◌+◌, ◌-◌, ◌≤◌, Bool, true, false, List, [], ◌++◌, length, drop, refl, sym, ap, ◌∙◌, subst, arith, length-append, length-drop}
use Rattle.std.proofs.lemmas.List.{drop-drop, drop_all, drop-append-le}
use Rattle.std.specs.Prelude.{min}
use Rattle.sp_events.specs.declared.event.What.{What}
use Rattle.sp_window.specs.Windows.{Held, end_of, trimmed}
use Rattle.sp_meaning_states.specs.States.{Main, Reading, State, End}
use Rattle.sp_meaning_states.specs.Reads.{Ask, Bytes, Read, is_ended}
use Rattle.sp_code.specs.Machine.{Plain, Config, Next, Goes, Waits, Over, step, low_of}
use Rattle.sp_code.specs.Runs.{Comes}
use Rattle.sp_law_machine.specs.continues.Windows.{window_from, reads_window, From}
use Rattle.sp_law_machine.proofs.continues_lemmas.Windows.{windows_serve}
use Rattle.sp_law_machine.proofs.continues_lemmas.Marks.{windows_run, marks_serve}
use Rattle.sp_law_machine.specs.ends.Ending.{whole}
use Rattle.sp_law_machine.proofs.ends_lemmas.Windows.{base_is_within, window_of_whole}
use Rattle.sp_machine.specs.declared.machine.Machine.{Machine}
use Rattle.sp_machine.specs.declared.machine.Stop.{Stop}
use Rattle.sp_machine.specs.declared.machine.Stop.TheVariants as stop_is
use Rattle.sp_machine.specs.Plain.{reading_of, state_of, plain, no_tokens, close_of, reads_of}
use Rattle.sp_machine.specs.Safe.{IsSafe}
use Rattle.sp_machine.specs.Ran.{Ran, IsStop}
use Rattle.sp_fiber.specs.Moves.{whole_reads, frames_of, Holds, IsWaiting, IsOver, Stopped, Moved}
use Rattle.sp_fiber.proofs.Marks.{IsHere, seen_here}
use Rattle.sp_fiber.proofs.Machines.{waits_here, frames_are, low_is_within}

-- a step that waits, and one by which all is over
wait_of : (x : Next) → IsStop stop_is.Need x → (mark : ℕ) × (x ≡ Waits mark)
wait_of (Waits m) h = (m, refl)
wait_of (Goes es d) h = absurd h
wait_of (Over how st) h = absurd h

over_of : (x : Next) → IsStop stop_is.Over x → (how : End) × (st : State) × (x ≡ Over how st)
over_of (Over how st) h = (how, st, refl)
over_of (Goes es d) h = absurd h
over_of (Waits m) h = absurd h

-- a run that told into an empty list, by how it stopped
pub ran_by : (p : Plain) (reads : Reading → Ask → Read) (w : Held) (old new : List What) (c d : Config) (stop is : Stop) → old ≡ [] → stop ≡ is → Ran p reads w old new c d stop → Ran p reads w [] new c d is
ran_by p reads w old new c d stop is none same h = subst (Ran p reads w [] new c d) same (subst (λ l. Ran p reads w l new c d stop) none h)

-- bytes lack at the place of the machine, of a window and of the whole
lent_here : (w : Held) (e : Bool) (m : Machine) (n : ℕ) → IsHere (is_ended (close_of e)) m.place (reads_of w e (reading_of m) (Bytes n))
lent_here w e m n = seen_here (window_from w.base w.bytes (close_of e) Main m.place []) m.place n

module _ (p : Plain) (w : Held) (e : Bool) (s : List ℕ) (within : w.base ≤ length s) (bytes : w.bytes ≡ drop w.base s) where
  abbrev all : Reading → Ask → Read
  all = whole_reads s (close_of e)

  end_is : end_of w ≡ length s
  end_is = omega (arith, ap length bytes, length-drop w.base s, within)

  step_all : (c : Config) → From w.base c → step p (reads_of w e) c ≡ step p all c
  step_all c from = ap (λ b. step p (reads_window no_tokens w.base b (close_of e)) c) bytes ∙ windows_serve p no_tokens w.base s (close_of e) c within from

  comes_all : (c d : Config) (es : List What) → From w.base c → Comes p (reads_of w e) c es d → Comes p all c es d × From w.base d
  comes_all c d es from h = windows_run p no_tokens w.base s (close_of e) c d es within from (subst (λ b. Comes p (reads_window no_tokens w.base b (close_of e)) c es d) bytes h)

  bytes_from : (to : ℕ) → w.base ≤ to → drop (to - w.base) w.bytes ≡ drop to s
  bytes_from to h =
      let on : w.base + (to - w.base) ≡ to = omega (arith, h) in
      ap (drop (to - w.base)) bytes ∙ drop-drop (to - w.base) w.base s ∙ ap (λ n. drop n s) on

  -- a machine that waits looks at nothing before its least place
  low_from : (m : Machine) (mark : ℕ) → From w.base (plain m) → step p (reads_of w e) (plain m) ≡ Waits mark → (to : ℕ) → to ≤ low_of m.stack m.place → From to (plain m)
  low_from m mark from h to low =
      let k = waits_here p (reads_of w e) (is_ended (close_of e)) m (lent_here w e m) mark h in
      let waits = subst (λ c. step p all c ≡ Waits mark) k.2 (sym (step_all (plain m) from) ∙ h) in
      subst (From to) (sym k.2)
      (marks_serve p no_tokens w.base s (close_of e) m.pc m.operands m.stack (state_of m) mark (subst (From w.base) k.2 from) waits to (subst (λ n. to ≤ low_of m.stack n) (sym k.0) low))

  is_waiting : (m : Machine) → From w.base (plain m) → IsStop stop_is.Need (step p (reads_of w e) (plain m))
      → IsWaiting p (close_of e) (trimmed (min (low_of m.stack m.place) (end_of w)) w) (plain m) s
  is_waiting m from stops =
      let x = wait_of (step p (reads_of w e) (plain m)) stops in
      let k = waits_here p (reads_of w e) (is_ended (close_of e)) m (lent_here w e m) x.0 x.1 in
      let to = min (low_of m.stack m.place) (end_of w) in
      let low = low_is_within w.base m from in
      let above : w.base ≤ to = omega (arith, low) in
      let below : to ≤ low_of m.stack m.place = omega arith in
      record {
        mark = x.0;
        waits = sym (step_all (plain m) from) ∙ x.1;
        least = ap (λ n. min (low_of m.stack m.place) n) end_is ∙ ap (λ fs. min (low_of fs m.place) (length s)) (sym (frames_are m)) ∙ ap (λ n. min (low_of (frames_of (plain m)) n) (length s)) (sym k.0);
        holds = record { within = omega (arith, end_is); bytes = bytes_from to above; from = low_from m x.0 from x.1 to below };
      }

  is_over : (m : Machine) → From w.base (plain m) → IsStop stop_is.Over (step p (reads_of w e) (plain m)) → IsOver p (close_of e) (trimmed (end_of w) w) (plain m) s
  is_over m from stops =
      let x = over_of (step p (reads_of w e) (plain m)) stops in
      record { how = x.0; state = x.1; over = sym (step_all (plain m) from) ∙ x.2; empty = drop_all (end_of w - w.base) w.bytes (omega arith) }

  -- a run over the window
  moved_by : (stop : Stop) (old new es : List What) (c : Config) (m : Machine) (v : Held) (is_over : Bool) → From w.base c → Ran p (reads_of w e) w [] es c (plain m) stop → new ≡ old ++ es
      → (From w.base (plain m) → Stopped is_over p (close_of e) v (plain m) s) → Moved p (close_of e) s old new c (plain m) v is_over
  moved_by stop old new es c m v is_over from ran told stopped =
      let r = comes_all c (plain m) ran.came.events from ran.came.comes in
      record { events = es; told = told; comes = subst (λ l. Comes p all c l (plain m)) (sym ran.came.told) r.0; stopped = stopped r.1 }

  pub moved_over : (old new es : List What) (c : Config) (m : Machine) (v : Held) → From w.base c → Ran p (reads_of w e) w [] es c (plain m) stop_is.Over → new ≡ old ++ es → v ≡ trimmed (end_of w) w
      → Moved p (close_of e) s old new c (plain m) v true
  moved_over old new es c m v from ran told cut = moved_by stop_is.Over old new es c m v true from ran told (λ f. subst (λ v. IsOver p (close_of e) v (plain m) s) (sym cut) (is_over m f ran.stops))

  pub moved_waits : (old new es : List What) (c : Config) (m : Machine) (v : Held) → From w.base c → Ran p (reads_of w e) w [] es c (plain m) stop_is.Need → new ≡ old ++ es
      → v ≡ trimmed (min (low_of m.stack m.place) (end_of w)) w → Moved p (close_of e) s old new c (plain m) v false
  moved_waits old new es c m v from ran told cut = moved_by stop_is.Need old new es c m v false from ran told (λ f. subst (λ v. IsWaiting p (close_of e) v (plain m) s) (sym cut) (is_waiting m f ran.stops))

module _ (p : Plain) (w : Held) (e : Bool) where
  -- a safe machine that waits is safe over what is left of its window
  pub safe_waits : (es : List What) (c : Config) (m : Machine) (v : Held) → Ran p (reads_of w e) w [] es c (plain m) stop_is.Need → v ≡ trimmed (min (low_of m.stack m.place) (end_of w)) w → IsSafe p v (plain m)
  safe_waits es c m v ran cut =
      let h = ran.came.safe in
      let x = wait_of (step p (reads_of w e) (plain m)) ran.stops in
      let to = min (low_of m.stack m.place) (end_of w) in
      let from = low_from p w e (whole w.base w.bytes) (base_is_within w.base w.bytes) (sym (window_of_whole w.base w.bytes)) m x.0 h.from x.1 to (omega arith) in
      subst (λ v. IsSafe p v (plain m)) (sym cut) (record { shapes = h.shapes; sound = h.sound; shaped = h.shaped; from = from })

  -- over an input that has ended it doesn't wait
  pub never_waits : (es : List What) (c : Config) (m : Machine) → e ≡ true → Ran p (reads_of w e) w [] es c (plain m) stop_is.Need → ⊥
  never_waits es c m ends ran =
      let x = wait_of (step p (reads_of w e) (plain m)) ran.stops in
      let k = waits_here p (reads_of w e) (is_ended (close_of e)) m (lent_here w e m) x.0 x.1 in
      let q : true ≡ false = ap (λ e. is_ended (close_of e)) (sym ends) ∙ k.1 in
      cc

-- trimming moves no end
pub end_stays : (w v : Held) (to : ℕ) → w.base ≤ to → to ≤ end_of w → v ≡ trimmed to w → end_of v ≡ end_of w
end_stays w v to h g e = ap end_of e ∙ omega (arith, length-drop (to - w.base) w.bytes, h, g)

-- a further piece of the input
pub holds_more : (w v : Held) (c : Config) (s piece : List ℕ) → Holds w c s → v ≡ record { base = w.base; bytes = w.bytes ++ piece } → Holds v c (s ++ piece)
holds_more w v c s piece h pushed =
    let within = h.within in
    subst (λ v. Holds v c (s ++ piece)) (sym pushed)
    (record { within = omega (arith, length-append s piece, within); bytes = ap (λ b. b ++ piece) h.bytes ∙ sym (drop-append-le w.base s piece h.within); from = h.from })

pub safe_more : (p : Plain) (w v : Held) (c : Config) (piece : List ℕ) → IsSafe p w c → v ≡ record { base = w.base; bytes = w.bytes ++ piece } → IsSafe p v c
safe_more p w v c piece h pushed = subst (λ v. IsSafe p v c) (sym pushed) (record { shapes = h.shapes; sound = h.sound; shaped = h.shaped; from = h.from })
