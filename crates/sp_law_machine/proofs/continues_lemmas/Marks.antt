-- What a wait tells of its mark. So many steps lead to no place before the base, and a machine that waits needs none before its least mark.
use Rattle.std.proofs.Common.{◌≡◌, ℕ, ◌≤◌, Bool, true, false, List, [], ◌∷◌, length, Option, Some, None, refl, sym, ◌∙◌, subst, arith}
use Rattle.std.proofs.lemmas.Bool.{or_right, true≢false}
use Rattle.std.specs.Prelude.{slice_get, nat_le, nat_lt, min, if◌then◌else◌}
use Rattle.sp_base.specs.Input.{Close}
use Rattle.sp_value.specs.Val.{Val}
use Rattle.sp_meaning_states.specs.States.{Source, Main, Given, View, Reading, State}
use Rattle.sp_meaning_states.specs.Scopes.{Scope, InUnit, InParts, InFailing, InCall, InSize, InMax, InFrom, InAt, InTry, needs}
use Rattle.sp_meaning_states.specs.Reads.{Ask, Bytes, Mark, Rest, Word, Data, Reach, Read, Got, Lacks, Verdict, Grows, Match, NoToken, is_over, place_in, Seen, lacking, cut_at, told_by, read_in, seen_from, reads, least_with}
use Rattle.sp_code.specs.Machine.{Frame, Plain, At, Ending, step, low_of}
use Rattle.sp_code.specs.Runs.{here, next}
use Rattle.sp_law_machine.specs.continues.Windows.{PlaceFrom, MoveFrom, IsLayered, ScopesFrom, scopes_of, From, PlacesStay, WindowsRun, MarksServe}
use Rattle.sp_law_machine.proofs.continues_lemmas.Windows.{windows_serve}
use Rattle.sp_law_machine.proofs.continues_lemmas.Places.{After, act_after, end_after}

-- only the fiber's own bytes are waited for, and no place behind the next byte
abbrev LackIn : ℕ → Bool → Read → Type 0
LackIn at over (Lacks m) = (m ≤ at) × (over ≡ false)
LackIn at over x = Unit {0}

lacking_lacks : (at m : ℕ) (over : Bool) (overs : List ℕ) → m ≤ at → LackIn at over (lacking over m overs)
lacking_lacks at m true overs h = tt
lacking_lacks at m false overs h = (h, refl)

either_lacks : (at : ℕ) (over b : Bool) (x y : Read) → LackIn at over x → LackIn at over y → LackIn at over (if b then x else y)
either_lacks at over true x y h g = h
either_lacks at over false x y h g = g

over_lacks : (at : ℕ) (over : Bool) (t n : ℕ) (bs : List ℕ) → LackIn at over (if over then Got t n bs else Lacks at)
over_lacks at true t n bs = tt
over_lacks at false t n bs = (omega arith, refl)

cut_lacks : (at : ℕ) (over : Bool) (o : Option ℕ) (w : ℕ) (bs : List ℕ) (otherwise : Read) → LackIn at over otherwise → LackIn at over (cut_at o w bs otherwise)
cut_lacks at over (Some k) w bs otherwise h = tt
cut_lacks at over None w bs otherwise h = h

told_lacks : (at : ℕ) (over : Bool) (v : Verdict) (bs : List ℕ) (otherwise : Read) → LackIn at over otherwise → LackIn at over (told_by v bs otherwise)
told_lacks at over Grows bs otherwise h = h
told_lacks at over (Match t n) bs otherwise h = tt
told_lacks at over NoToken bs otherwise h = tt

lacks_in : (verdict : ℕ → List ℕ → Bool → Verdict) (x : Seen) (at : ℕ) (a : Ask) → LackIn at x.over (read_in verdict x at a)
lacks_in verdict x at (Bytes n) = either_lacks at x.over (nat_le n (length x.ahead)) _ _ tt (lacking_lacks at at x.over x.overs (omega arith))
lacks_in verdict x at (Mark d) = cut_lacks at x.over (place_in d x.ahead) (length d) x.ahead (lacking x.over at x.overs) (lacking_lacks at at x.over x.overs (omega arith))
lacks_in verdict x at Rest = over_lacks at x.over 0 (length x.ahead) x.ahead
lacks_in verdict x at (Word set) = told_lacks at x.over (verdict set x.ahead x.over) x.ahead (lacking x.over at x.overs) (lacking_lacks at at x.over x.overs (omega arith))
lacks_in verdict x at Data = either_lacks at x.over (nat_lt at x.stop) _ _ tt (over_lacks at x.over 0 0 [])
lacks_in verdict x at (Reach to) = either_lacks at x.over (nat_le to x.stop) _ _ tt (lacking_lacks at (min at (min to x.stop)) x.over x.overs (omega arith))

stays_over : (vs : List View) (len : ℕ) → is_over true len vs ≡ true
stays_over [] len = refl
stays_over (v ∷ vs) len = or_right (nat_le v.limit len) (is_over true len vs) (stays_over vs len)

abbrev IsOwn : Source → Type 0
IsOwn Main = Unit {0}
IsOwn (Given b) = ⊥

own_source : (s : List ℕ) (c : Close) (x : Source) (at : ℕ) (vs : List View) → (seen_from s c x at vs).over ≡ false → IsOwn x
own_source s c Main at vs e = tt
own_source s c (Given b) at vs e = true≢false (sym (stays_over vs (length b)) ∙ e)

-- what a wait tells of its mark
abbrev IsMarked : State → ℕ → Type 0
IsMarked st w = (m : ℕ) × (w ≡ least_with st.move m) × (m ≤ st.now.place) × IsOwn st.now.source

lacks_mark : (verdict : ℕ → List ℕ → Bool → Verdict) (s : List ℕ) (c : Close) (st : State) (a : Ask) (m : ℕ) → reads verdict s c st.now a ≡ Lacks m → IsMarked st (least_with st.move m)
lacks_mark verdict s c st a m e =
    let r = st.now in
    let seen = seen_from s c r.source r.place r.views in
    let h = subst (LackIn r.place seen.over) e (lacks_in verdict seen r.place a) in
    (m, refl, h.0, own_source s c r.source r.place r.views h.1)

step_after : (p : Plain) (verdict : ℕ → List ℕ → Bool → Verdict) (base : ℕ) (s : List ℕ) (close : Close) (pc : ℕ) (vs : List Val) (fs : List Frame) (st : State) → From base (At pc vs fs st)
    → After base (IsMarked st) (step p (reads verdict s close) (At pc vs fs st))
step_after p verdict base s close pc vs fs st h = act_after base (IsMarked st) p (reads verdict s close) (slice_get p.code pc) pc vs fs st (lacks_mark verdict s close st) h

pub places_stay : PlacesStay
places_stay p verdict base s close (At pc vs fs st) d es h e = subst (After base (IsMarked st)) e (step_after p verdict base s close pc vs fs st h)
places_stay p verdict base s close (Ending how fs st) d es h e = subst (After base (IsMarked st)) e (end_after base (IsMarked st) p (reads verdict s close) how fs st h)

pub windows_run : WindowsRun
windows_run p verdict base s close c d es low h here = (here, h)
windows_run p verdict base s close c d es low h (next {d = e} {es = fs} {fs = gs} one rest) =
    let whole = sym (windows_serve p verdict base s close c low h) ∙ one in
    let r = windows_run p verdict base s close e d gs low (places_stay p verdict base s close c e fs h whole) rest in
    (next whole r.0, r.1)

-- open constructs need no place before their least mark
needs_from : (low m : ℕ) (x : Scope) (xs : List Scope) → low ≤ needs x m → ScopesFrom low Main [] xs → (low ≤ m) × ScopesFrom low Main [] (x ∷ xs)
needs_from low m (InUnit true instance start self locals) xs h f = (omega (arith, h), (omega (arith, h), f))
needs_from low m (InUnit false instance start self locals) xs h f = (h, f)
needs_from low m (InParts failing) xs h f = (h, f)
needs_from low m (InFailing e) xs h f = (h, f)
needs_from low m (InCall called self locals) xs h f = (h, f)
needs_from low m (InSize views limit) xs h f = (h, f)
needs_from low m (InMax views number start n) xs h f = (h, f)
needs_from low m (InFrom level at) xs h f = (h, (tt, f))
needs_from low m (InAt level at) xs h f = (omega (arith, h), (omega (arith, h), f))
needs_from low m (InTry tries place unset) xs h f = (omega (arith, h), (omega (arith, h), f))

low_from : (low m : ℕ) (fs : List Frame) → low ≤ low_of fs m → (low ≤ m) × ScopesFrom low Main [] (scopes_of fs)
low_from low m [] h = (h, tt)
low_from low m (f ∷ fs) h = let r = low_from low (needs f.scope m) fs h in needs_from low m f.scope (scopes_of fs) r.0 r.1

dropped : (low w : ℕ) (x : Source) (rs : List Reading) (place : ℕ) (move : Option ℕ) (fs : List Frame) (m : ℕ) → IsLayered x rs → IsOwn x → w ≡ least_with move m → m ≤ place → low ≤ low_of fs w
    → IsLayered x rs × PlaceFrom low x place × MoveFrom low x move × ScopesFrom low x rs (scopes_of fs)
dropped low w (Given b) rs place move fs m l o e h g = absurd o
dropped low w Main (r ∷ rs) place move fs m l o e h g = absurd l
dropped low w Main [] place None fs m l o e h g = let r = low_from low w fs g in let k = r.0 in (tt, omega (arith, k, e, h), tt, r.1)
dropped low w Main [] place (Some to) fs m l o e h g = let r = low_from low w fs g in let k = r.0 in (tt, omega (arith, k, e, h), omega (arith, k, e, h), r.1)

pub marks_serve : MarksServe
marks_serve p verdict base s close pc vs fs st mark h e low g =
    let k = subst (After base (IsMarked st)) e (step_after p verdict base s close pc vs fs st h) in
    dropped low mark st.now.source st.outer st.now.place st.move fs k.0 h.0 k.3 k.1 k.2 g
