-- How the unit of a fiber ends that has told a result.
use Rattle.std.proofs.Common.{◌≡◌, ℕ, List, [], ◌∷◌, Option, Some, None, refl, sym, ap, ◌∙◌, subst}
use Rattle.std.specs.Prelude.{slice_get, unwrap_or}
use Rattle.sp_base.specs.Input.{Close, held_open, ended}
use Rattle.sp_base.specs.declared.places.ParseError.{ParseError}
use Rattle.sp_events.specs.Tree.{TreeData}
use Rattle.sp_events.specs.declared.event.What.{What}
use Rattle.sp_value.specs.Val.{Val}
use Rattle.sp_meaning_states.specs.States.{Main, Reading, Error, Instance, State, End, Gives, Fine, Failed, Returned, Result, Ends, end_of, events_of}
use Rattle.sp_meaning_states.specs.Scopes.{leave}
use Rattle.sp_meaning_states.specs.Reads.{Ask, Bytes, Read, is_ended, seen_from}
use Rattle.sp_meaning_states.specs.Telling.{Names, value_tree}
use Rattle.sp_code.specs.Machine.{Frame, Plain, Config, Next, Goes, Waits, Over, caught, landed, unless_caught, take_off, step}
use Rattle.sp_frames.specs.Frames.{error_of}
use Rattle.sp_machine.specs.declared.machine.Machine.{Machine}
use Rattle.sp_machine.specs.declared.machine.Mode.{Mode}
use Rattle.sp_machine.specs.declared.machine.Mode.TheVariants.{Running, Leaving, Returning, Failing}
use Rattle.sp_machine.specs.Plain.{reading_of, state_of, plain_in, plain}
use Rattle.sp_law_programs.specs.unit_told.Told.{told_end, IsOverIn, Tells}
use Rattle.sp_law_programs.specs.unit_told.Told as results
use Rattle.sp_meaning_states.specs.States as results_states
use Rattle.sp_fiber.specs.declared.stand.Stand.{Stand}
use Rattle.sp_fiber.specs.declared.stand.Stand.TheVariants as stand_is
use Rattle.sp_fiber.specs.Moves.{whole_reads}
use Rattle.sp_fiber.specs.Fibers.{Suspended, StandsFor, EndedFor, HasRun}
use Rattle.sp_fiber.specs.Standing.{IsStand}
use Rattle.sp_fiber.proofs.Marks.{IsHere, WaitsHere, seen_here, act_here}
use Rattle.sp_meaning.specs.Meaning.{told}
use Rattle.sp_session.specs.declared.ending.Ending.TheVariants as ending_is
use Rattle.sp_session.specs.Units.{told_error}
use Rattle.sp_session.specs.Telling.{IsEnding, HasStopped, HasTold}

-- an end that takes frames off keeps the state, where all is over by it
landed_in : (x : State) (to : ℕ) (vs : List Val) (fs : List Frame) (r : Result) → IsOverIn x (landed to vs fs r)
landed_in x to vs fs (Ends (Gives v) es st) = tt
landed_in x to vs fs (Ends Fine es st) = tt
landed_in x to vs fs (Ends _ es st) = tt

caught_in : (x : State) (o : Option (ℕ × Error)) (f : Frame) (fs : List Frame) (st : State) (next : Next) → IsOverIn x next → IsOverIn x (unless_caught o f fs st next)
caught_in x (Some c) f fs st next h = tt
caught_in x None f fs st next h = h

end_in : (how : End) (fs : List Frame) (st : State) → IsOverIn st (take_off how fs st)
end_in how [] st = refl
end_in how (f ∷ fs) st = caught_in st (caught f.scope how) f fs st _ (landed_in st f.to f.below fs (leave f.scope how st))

module _ (p : Plain) (s : List ℕ) (close : Close) (m : Machine) where
  abbrev all : Reading → Ask → Read
  all = whole_reads s close

  here : (n : ℕ) → IsHere (is_ended close) m.place (all (reading_of m) (Bytes n))
  here n = seen_here (seen_from s close Main m.place []) m.place n

  -- an instruction is never the end of all
  running_in : (x : Next) → WaitsHere (is_ended close) m.place x → IsOverIn (state_of m) x
  running_in (Goes es d) h = tt
  running_in (Waits mark) h = tt
  running_in (Over how st) h = absurd h

  step_in : (mode : Mode) → IsOverIn (state_of m) (step p all (plain_in mode m))
  step_in Running = running_in (step p all (plain_in Running m)) (act_here (is_ended close) m.place p all (slice_get p.code m.pc) m.pc m.operands m.stack (state_of m) refl here)
  step_in Leaving = end_in Fine m.stack (state_of m)
  step_in (Returning v) = end_in (Returned v) m.stack (state_of m)
  step_in (Failing e) = end_in (Failed (error_of e)) m.stack (state_of m)

  -- a machine at which all is over keeps its state
  over_in : IsOverIn (state_of m) (step p all (plain m))
  over_in = step_in m.mode

-- what a fiber lends of its end
abbrev pub value_in : Stand → Option Val
value_in (stand_is.Done x) = Some x.now
value_in stand = None

abbrev pub error_in : Stand → Option ParseError
error_in (stand_is.Failed x) = Some x.now
error_in stand = None

-- a result that ends so, by the step at which the machine stands
module _ (names : Names) (instances : List Instance) (fs : List Frame) where
  abbrev IsSeen : Next → Result → Type 0
  IsSeen x r = (told_end fs x ≡ end_of r) × IsOverIn (results_states.state_of r) x

  waits_ending : (m : ℕ) (r : Result) → IsSeen (Waits m) r → IsEnding names r ending_is.Waits
  waits_ending m (Ends how es st) h = subst (λ how. IsEnding names (Ends how es st) ending_is.Waits) h.0 (record { stands = refl; tells = refl })

  left_ending : (x : State) (r : Result) → IsSeen (Over Fine x) r → IsEnding names r ending_is.Waits
  left_ending x (Ends how es st) h = subst (λ how. IsEnding names (Ends how es st) ending_is.Waits) h.0 (record { stands = refl; tells = refl })

  gives_ending : (v w : Val) (x : State) (tree : TreeData) (r : Result) → w ≡ v → x.instances ≡ instances → tree ≡ value_tree names instances w → IsSeen (Over (Returned v) x) r → IsEnding names r (ending_is.Gives tree)
  gives_ending v w x tree (Ends how es st) same kept is h =
      let instances_are : instances ≡ st.instances = sym kept ∙ ap (λ (y : State). y.instances) h.1 in
      let tree_is : tree ≡ value_tree names st.instances v = is ∙ ap (value_tree names instances) same ∙ ap (λ is. value_tree names is v) instances_are in
      subst (λ how. IsEnding names (Ends how es st) (ending_is.Gives tree)) h.0 (record { stands = refl; tells = ap (λ t. told (What.Done t)) tree_is })

  fails_ending : (e : Error) (x : State) (y : ParseError) (r : Result) → error_of y ≡ e → IsSeen (Over (Failed e) x) r → IsEnding names r (ending_is.Fails y)
  fails_ending e x y (Ends how es st) is h =
      let same : y ≡ told_error e = ap told_error is in
      subst (λ how. IsEnding names (Ends how es st) (ending_is.Fails y)) h.0 (subst (λ z. IsEnding names (Ends (Failed e) es st) (ending_is.Fails z)) (sym same) (record { stands = refl; tells = refl }))

  pub waiting_is : (x : Next) (r : Result) → IsStand stand_is.Waiting x → IsSeen x r → IsEnding names r ending_is.Waits
  waiting_is (Waits m) r i h = waits_ending m r h
  waiting_is (Goes es d) r i h = absurd i
  waiting_is (Over how st) r i h = absurd i

  pub left_is : (x : Next) (r : Result) → IsStand stand_is.Left x → IsSeen x r → IsEnding names r ending_is.Waits
  left_is (Over Fine st) r i h = left_ending st r h
  left_is (Over _ st) r i h = absurd i
  left_is (Goes es d) r i h = absurd i
  left_is (Waits m) r i h = absurd i

  pub done_is : (x : Next) (y : State) (stand : Stand) (w : Val) (tree : TreeData) (r : Result) → value_in stand ≡ Some w → IsStand stand x → IsOverIn y x → y.instances ≡ instances → tree ≡ value_tree names instances w
      → IsSeen x r → IsEnding names r (ending_is.Gives tree)
  done_is (Over (Returned v) st) y (stand_is.Done z) w tree r e i o kept is h =
      let same : w ≡ v = ap (λ q. unwrap_or q w) (sym e) ∙ i in
      gives_ending v w st tree r same (ap (λ (y : State). y.instances) o ∙ kept) is h
  done_is (Over _ st) y (stand_is.Done z) w tree r e i o kept is h = absurd i
  done_is (Goes es d) y (stand_is.Done z) w tree r e i o kept is h = absurd i
  done_is (Waits m) y (stand_is.Done z) w tree r e i o kept is h = absurd i
  done_is x y _ w tree r e i o kept is h = absurd (let q : None ≡ Some w = e in cc)

  pub failed_is : (x : Next) (stand : Stand) (y : ParseError) (r : Result) → error_in stand ≡ Some y → IsStand stand x → IsSeen x r → IsEnding names r (ending_is.Fails y)
  failed_is (Over (Failed e) st) (stand_is.Failed z) y r is i h = fails_ending e st y r (ap error_of (ap (λ q. unwrap_or q y) (sym is)) ∙ i) h
  failed_is (Over _ st) (stand_is.Failed z) y r is i h = absurd i
  failed_is (Goes es d) (stand_is.Failed z) y r is i h = absurd i
  failed_is (Waits m) (stand_is.Failed z) y r is i h = absurd i
  failed_is x _ y r is i h = absurd (let q : None ≡ Some y = is in cc)

-- how a fiber stands that has stopped, by what it says where it is held open and where it has ended
module _ (f : Suspended) (stand : Stand) where
  abbrev StandsOpen : Type 0
  StandsOpen = (from : Config) (s : List ℕ) (es : List What) → StandsFor f from s es → HasRun f.phase → IsStand stand (step f.code (whole_reads s held_open) f.at)

  abbrev StandsEnded : Type 0
  StandsEnded = (from : Config) (s : List ℕ) (es : List What) → EndedFor f from s es → IsStand stand (step f.code (whole_reads s ended) f.at)

  stand_of_stopped : StandsOpen → StandsEnded → (close : Close) (from : Config) (s : List ℕ) (es : List What) → HasStopped close f from s es → IsStand stand (step f.code (whole_reads s close) f.at)
  stand_of_stopped live over held_open from s es h = live from s es h.0 h.1
  stand_of_stopped live over ended from s es h = over from s es h

  module _ (names : Names) (live : StandsOpen) (over : StandsEnded) (close : Close) (from : Config) (s : List ℕ) (r : Result) (h : HasTold close f from s r) where
    abbrev next : Next
    next = step f.code (whole_reads s close) f.at

    stands : IsStand stand next
    stands = stand_of_stopped live over close from s (events_of r) h.stopped

    seen : (told_end (results.frames_of f.at) next ≡ end_of r) × IsOverIn (results_states.state_of r) next
    seen = (h.tells.ends, h.tells.state)

    pub ends_waiting : stand ≡ stand_is.Waiting → IsEnding names r ending_is.Waits
    ends_waiting is = waiting_is names [] (results.frames_of f.at) next r (subst (λ x. IsStand x next) is stands) seen

    pub ends_left : stand ≡ stand_is.Left → IsEnding names r ending_is.Waits
    ends_left is = left_is names [] (results.frames_of f.at) next r (subst (λ x. IsStand x next) is stands) seen

    pub ends_failed : (y : ParseError) → error_in stand ≡ Some y → IsEnding names r (ending_is.Fails y)
    ends_failed y is = failed_is names [] (results.frames_of f.at) next stand y r is stands seen

    pub ends_done : (m : Machine) (w : Val) (tree : TreeData) → plain m ≡ f.at → value_in stand ≡ Some w → tree ≡ value_tree names m.instances.items w → IsEnding names r (ending_is.Gives tree)
    ends_done m w tree at is told =
        done_is names m.instances.items (results.frames_of f.at) next (state_of m) stand w tree r is stands (subst (λ c. IsOverIn (state_of m) (step f.code (whole_reads s close) c)) at (over_in f.code s close m)) refl told seen
