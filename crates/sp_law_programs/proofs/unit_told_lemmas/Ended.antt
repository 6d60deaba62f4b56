-- Over an input that is ended no step waits, and so no unit does.
use Rattle.std.proofs.Common.{◌≡◌, ℕ, Bool, true, false, List, [], ◌∷◌, length, Option, Some, None, refl, sym, ◌∙◌, subst, arith}
use Rattle.std.proofs.lemmas.Bool.{or_right, true≢false}
use Rattle.std.specs.Prelude.{slice_get, nat_le, nat_lt, min, if◌then◌else◌}
use Rattle.sp_base.specs.Input.{ended}
use Rattle.sp_events.specs.declared.event.What.{What}
use Rattle.sp_meaning_states.specs.States.{Source, Main, Given, View, End, Need, Unfinished, Result, Ends, end_of, events_of}
use Rattle.sp_meaning_states.specs.Reads.{Ask, Bytes, Mark, Rest, Word, Data, Reach, Read, Lacks, Verdict, Grows, Match, NoToken, is_over, place_in, Seen, lacking, cut_at, told_by, read_in, seen_from, reads}
use Rattle.sp_code.specs.Runs.{Comes, here, next}
use Rattle.sp_code.specs.Machine.{Plain, Config, At, Ending, Next, Waits, step}
use Rattle.sp_law_machine.specs.continues.Laws.{IsLack, IsWait}
use Rattle.sp_law_machine.specs.continues.Windows.{From}
use Rattle.sp_law_machine.proofs.continues_lemmas.Places.{After, act_after, end_after}
use Rattle.sp_law_machine.proofs.continues_lemmas.Marks.{places_stay}
use Rattle.sp_law_programs.specs.finished_bodies.Laws.{IsFinished}
use Rattle.sp_law_programs.specs.unit_told.Told.{frames_of, started, meant, IsNeed}
use Rattle.sp_law_programs.specs.unit_told.Laws.{EndedStepsDecide, EndedDecides}
use Rattle.sp_law_programs.proofs.unit_told_lemmas.Exact.{needs_wait}
use Rattle.sp_law_programs.proofs.unit_told_lemmas.Units.{meanings_are_told}

-- what is read where all that is seen is over
lacking_decides : (over : Bool) (m : ℕ) (overs : List ℕ) → over ≡ true → IsLack (lacking over m overs) → ⊥
lacking_decides true m overs e h = h
lacking_decides false m overs e h = true≢false (sym e)

over_decides : (over : Bool) (x : Read) (m : ℕ) → over ≡ true → (IsLack x → ⊥) → IsLack (if over then x else Lacks m) → ⊥
over_decides true x m e d h = d h
over_decides false x m e d h = true≢false (sym e)

either_decides : (b : Bool) (x y : Read) → (IsLack x → ⊥) → (IsLack y → ⊥) → IsLack (if b then x else y) → ⊥
either_decides true x y d g h = d h
either_decides false x y d g h = g h

cut_decides : (o : Option ℕ) (w : ℕ) (bs : List ℕ) (x : Read) → (IsLack x → ⊥) → IsLack (cut_at o w bs x) → ⊥
cut_decides (Some k) w bs x d h = h
cut_decides None w bs x d h = d h

told_decides : (v : Verdict) (bs : List ℕ) (x : Read) → (IsLack x → ⊥) → IsLack (told_by v bs x) → ⊥
told_decides Grows bs x d h = d h
told_decides (Match t n) bs x d h = h
told_decides NoToken bs x d h = h

read_decides : (verdict : ℕ → List ℕ → Bool → Verdict) (x : Seen) (at : ℕ) (a : Ask) → x.over ≡ true → IsLack (read_in verdict x at a) → ⊥
read_decides verdict x at (Bytes n) e = either_decides (nat_le n (length x.ahead)) _ _ (λ h. h) (lacking_decides x.over at x.overs e)
read_decides verdict x at (Mark d) e = cut_decides (place_in d x.ahead) (length d) x.ahead _ (lacking_decides x.over at x.overs e)
read_decides verdict x at Rest e = over_decides x.over _ at e (λ h. h)
read_decides verdict x at (Word set) e = told_decides (verdict set x.ahead x.over) x.ahead _ (lacking_decides x.over at x.overs e)
read_decides verdict x at Data e = either_decides (nat_lt at x.stop) _ _ (λ h. h) (over_decides x.over _ at e (λ h. h))
read_decides verdict x at (Reach to) e = either_decides (nat_le to x.stop) _ _ (λ h. h) (lacking_decides x.over (min at (min to x.stop)) x.overs e)

stays_over : (vs : List View) (len : ℕ) → is_over true len vs ≡ true
stays_over [] len = refl
stays_over (v ∷ vs) len = or_right (nat_le v.limit len) (is_over true len vs) (stays_over vs len)

all_is_over : (s : List ℕ) (x : Source) (at : ℕ) (vs : List View) → (seen_from s ended x at vs).over ≡ true
all_is_over s Main at vs = stays_over vs (length s)
all_is_over s (Given b) at vs = stays_over vs (length b)

-- what is so of each mark is so of nothing where no step waits
never : (base : ℕ) (x : Next) → After base (λ m. ⊥) x → IsWait x → ⊥
never base (Waits m) h w = h
never base _ h w = w

pub ended_steps_decide : EndedStepsDecide
ended_steps_decide p verdict base s (At pc vs fs st) h =
    let r = st.now in
    never base (step p (reads verdict s ended) (At pc vs fs st))
    (act_after base (λ m. ⊥) p (reads verdict s ended) (slice_get p.code pc) pc vs fs st
    (λ a m e. read_decides verdict (seen_from s ended r.source r.place r.views) r.place a (all_is_over s r.source r.place r.views) (subst IsLack (sym e) tt)) h)
ended_steps_decide p verdict base s (Ending how fs st) h =
    never base (step p (reads verdict s ended) (Ending how fs st)) (end_after base (λ m. ⊥) p (reads verdict s ended) how fs st h)

need_finished : (r : Result) → IsNeed (end_of r) → IsFinished r
need_finished (Ends Unfinished es st) h = h
need_finished (Ends _ es st) h = tt

which_need : (how : End) → IsNeed how → (m : ℕ) × (how ≡ Need m)
which_need (Need m) h = (m, refl)
which_need _ h = absurd h

-- so many steps lead to no place before the base
run_stays : (p : Plain) (verdict : ℕ → List ℕ → Bool → Verdict) (base : ℕ) (s : List ℕ) (c d : Config) (es : List What) → From base c → Comes p (reads verdict s ended) c es d → From base d
run_stays p verdict base s c d es h here = h
run_stays p verdict base s c d es h (next {d = e} {es = fs} {fs = gs} one rest) = run_stays p verdict base s e d gs (places_stay p verdict base s ended c e fs h one) rest

pub ended_decides : EndedDecides
ended_decides p verdict hook_names list at u ws starts s n h =
    let r = meant p hook_names list (reads verdict s ended) n u ws in
    let t = meanings_are_told p (reads verdict s ended) hook_names list at u ws starts n (need_finished r h) in
    let from = run_stays p verdict 0 s (started at ws) t.0 (events_of r) (tt, omega arith, tt, tt) t.1 in
    let need = which_need (end_of r) h in
    let wait = needs_wait (frames_of t.0) (step p (reads verdict s ended) t.0) need.0 (t.3.ends ∙ need.1) in
    ended_steps_decide p verdict 0 s t.0 from (subst IsWait (sym wait.1) tt)
