-- What a machine does that is lent only the bytes from a base on.
use Rattle.std.proofs.Common.{◌≡◌, ℕ, ◌+◌, ◌-◌, ◌≤◌, Bool, List, [], ◌∷◌, length, take, drop, Option, Some, refl, ap, ◌∙◌, arith, length-drop}
use Rattle.std.proofs.lemmas.List.{drop-drop}
use Rattle.std.specs.Prelude.{slice_get}
use Rattle.sp_base.specs.Input.{Close}
use Rattle.sp_value.specs.Val.{Val}
use Rattle.sp_value.specs.Integers.{integer_of}
use Rattle.sp_base.specs.declared.kinds.PKind.TheVariants.{NoMatch}
use Rattle.sp_meaning_states.specs.States.{Source, Main, Given, View, Reading, State, go}
use Rattle.sp_meaning_states.specs.Reads.{Ask, Bytes, Read, is_ended, data_end, is_over, overs_of, Seen, read_in, seen_in, seen_from, reads}
use Rattle.sp_meaning_states.specs.Types.{width_bytes}
use Rattle.sp_code.specs.declared.instr.Instr.{Instr}
use Rattle.sp_code.specs.declared.instr.Instr.TheVariants.{ReadInt}
use Rattle.sp_code.specs.Machine.{Frame, Plain, At, Ending, Goes, raise, read_next, act}
use Rattle.sp_law_machine.specs.continues.Windows.{PlaceFrom, window_in, window_from, reads_window, WindowsServe}

same_view : (base : ℕ) (s : List ℕ) (c : Bool) (at : ℕ) (vs : List View) → base ≤ length s → base ≤ at → window_in base (drop base s) c at vs ≡ seen_in s c at vs
same_view base s c at vs low h =
    let len : base + length (drop base s) ≡ length s = omega (arith, length-drop base s, low) in
    let on : base + (at - base) ≡ at = omega (arith, h) in
    let made : ℕ → List ℕ → Seen = λ n bs. record { ahead = take (data_end n vs - at) bs; stop = data_end n vs; over = is_over c n vs; overs = overs_of (data_end n vs) vs } in
    ap (λ n. made n (drop (at - base) (drop base s))) len ∙ ap (made (length s)) (drop-drop (at - base) base s ∙ ap (λ n. drop n s) on)

same_source : (base : ℕ) (s : List ℕ) (c : Close) (x : Source) (at : ℕ) (vs : List View) → base ≤ length s → PlaceFrom base x at → window_from base (drop base s) c x at vs ≡ seen_from s c x at vs
same_source base s c Main at vs low h = same_view base s (is_ended c) at vs low h
same_source base s c (Given b) at vs low h = refl

-- where the second function answers as the first one does, whatever is asked of the input at hand
act_same : (p : Plain) (first second : Reading → Ask → Read) (o : Option Instr) (pc : ℕ) (vs : List Val) (fs : List Frame) (st : State) → ((a : Ask) → second st.now a ≡ first st.now a)
    → act p second o pc vs fs st ≡ act p first o pc vs fs st
act_same p first second (Some (ReadInt form)) pc vs fs st same =
    ap (λ x. read_next x (λ t n bs. Goes [] (At (pc + 1) (integer_of form.little form.signed bs ∷ vs) fs (go (st.now.place + n) st))) (raise NoMatch fs st) fs st) (same (Bytes (width_bytes form.width)))
act_same p first second _ pc vs fs st same = refl

pub windows_serve : WindowsServe
windows_serve p verdict base s close (At pc vs fs st) low h =
    act_same p (reads verdict s close) (reads_window verdict base (drop base s) close) (slice_get p.code pc) pc vs fs st
    (λ a. ap (λ x. read_in verdict x st.now.place a) (same_source base s close st.now.source st.now.place st.now.views low h.1))
windows_serve p verdict base s close (Ending how fs st) low h = refl
