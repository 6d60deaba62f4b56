-- What is told on a front of an input is told on the whole.
use Rattle.std.proofs.Common.{◌≡◌, List, ◌++◌, sym, ap, ◌∙◌, subst}
use Rattle.sp_base.specs.Input.{held_open}
use Rattle.sp_meaning_states.specs.States.{State, Result, Ends, end_of, events_of, state_of}
use Rattle.sp_meaning_states.specs.Reads.{reads}
use Rattle.sp_code.specs.Machine.{Frame, Next, Goes, Waits, Over, step}
use Rattle.sp_law_machine.specs.continues.Laws.{IsWait}
use Rattle.sp_law_machine.proofs.continues_lemmas.Steps.{steps_continue, runs_continue}
use Rattle.sp_law_machine.specs.ends.Ending.{IsStop}
use Rattle.sp_law_programs.specs.unit_told.Told.{started, meant, IsNeed, frames_of, told_end, IsOverIn}
use Rattle.sp_law_programs.specs.unit_told.Laws.{ToldStays, FeedsAreMeant}
use Rattle.sp_law_programs.proofs.unit_told_lemmas.Stops.{runs_pass, runs_go_on}
use Rattle.sp_law_programs.proofs.unit_told_lemmas.Units.{meanings_are_told, stops_are_meant}

wait_needs : (fs : List Frame) (x : Next) → IsWait x → IsNeed (told_end fs x)
wait_needs fs (Goes es d) w = w
wait_needs fs (Waits m) w = tt
wait_needs fs (Over how st) w = absurd w

same_result : (q r : Result) → end_of q ≡ end_of r → events_of q ≡ events_of r → state_of q ≡ state_of r → q ≡ r
same_result (Ends how es st) (Ends how' es' st') e f g = ap (λ x. Ends x es st) e ∙ ap (λ l. Ends how' l st) f ∙ ap (Ends how' es') g

-- where all is over, it is so in one state
same_state : (x : Next) (a b : State) → IsStop x → (IsWait x → ⊥) → IsOverIn a x → IsOverIn b x → a ≡ b
same_state (Goes es d) a b stop w e f = absurd stop
same_state (Waits m) a b stop w e f = absurd (w tt)
same_state (Over how st) a b stop w e f = sym e ∙ f

pub told_stays : ToldStays
told_stays p verdict steady hook_names list at u ws starts s t close n m f g =
    let front = reads verdict s held_open in
    let all = reads verdict (s ++ t) close in
    let r = meant p hook_names list front n u ws in
    let q = meant p hook_names list all m u ws in
    let a = meanings_are_told p front hook_names list at u ws starts n f in
    let b = meanings_are_told p all hook_names list at u ws starts m g in
    let c = runs_continue p verdict steady s t close (started at ws) a.0 (events_of r) a.1 in
    let k = runs_pass p all (started at ws) a.0 b.0 (events_of r) (events_of q) c b.1 b.2 in (
      (k.0, k.1),
      λ settled.
          let w : IsWait (step p front a.0) → ⊥ = λ w. settled (subst IsNeed a.3.ends (wait_needs (frames_of a.0) (step p front a.0) w)) in
          let same = steps_continue p verdict steady s t close a.0 w in
          let o = stops_are_meant p all hook_names list at u ws starts a.0 (events_of r) c (subst IsStop (sym same) a.2) m g in
          same_result q r
          (sym o.ends ∙ ap (told_end (frames_of a.0)) same ∙ a.3.ends)
          (sym o.events)
          (same_state (step p front a.0) (state_of q) (state_of r) a.2 w (subst (IsOverIn (state_of q)) same o.state) a.3.state),
    )

pub feeds_are_meant : FeedsAreMeant
feeds_are_meant p verdict steady hook_names list at u ws starts s t close d e es fs a b stop n f =
    stops_are_meant p (reads verdict (s ++ t) close) hook_names list at u ws starts e (es ++ fs) (runs_go_on p verdict steady s t close (started at ws) d e es fs a b) stop n f
