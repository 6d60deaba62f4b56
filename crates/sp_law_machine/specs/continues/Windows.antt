-- A machine that is lent only the bytes of its input from a place on, its base. Places stay those of the whole input.
use Rattle.std.specs.Prelude.{◌≡◌, ◌≤◌, ℕ, ◌+◌, ◌-◌, Bool, true, List, [], ◌∷◌, length, take, drop, Option, Some, None}
use Rattle.sp_base.specs.Input.{Close}
use Rattle.sp_events.specs.declared.event.What.{What}
use Rattle.sp_value.specs.Val.{Val}
use Rattle.sp_meaning_states.specs.States.{Source, Main, Given, View, Reading, State}
use Rattle.sp_meaning_states.specs.Scopes.{Scope, InUnit, InFrom, InAt, InTry}
use Rattle.sp_meaning_states.specs.Reads.{Ask, Read, Verdict, is_ended, data_end, is_over, overs_of, Seen, read_in, seen_in, reads}
use Rattle.sp_code.specs.Machine.{Frame, Plain, Config, At, Ending, Goes, Waits, step, low_of}
use Rattle.sp_code.specs.Runs.{Comes}

-- what the views over an input show from a place on, of which only these bytes from the base on are lent
abbrev pub window_in : ℕ → List ℕ → Bool → ℕ → List View → Seen
window_in base w c at vs =
    record {
      ahead = take (data_end (base + length w) vs - at) (drop (at - base) w);
      stop = data_end (base + length w) vs;
      over = is_over c (base + length w) vs;
      overs = overs_of (data_end (base + length w) vs) vs;
    }

-- so of the fiber's own bytes; a value of a `&parse-from` is there whole
abbrev pub window_from : ℕ → List ℕ → Close → Source → ℕ → List View → Seen
window_from base w c Main at vs = window_in base w (is_ended c) at vs
window_from base w c (Given b) at vs = seen_in b true at vs

-- the reading function of a fiber that is lent these of its own bytes
abbrev pub reads_window : (ℕ → List ℕ → Bool → Verdict) → ℕ → List ℕ → Close → Reading → Ask → Read
reads_window verdict base w c r a = read_in verdict (window_from base w c r.source r.place r.views) r.place a

-- a place of the fiber's own bytes isn't before the base
abbrev pub PlaceFrom : ℕ → Source → ℕ → Type 0
PlaceFrom base Main place = base ≤ place
PlaceFrom base (Given b) place = Unit {0}

-- nor is the place to which the input is to move
abbrev pub MoveFrom : ℕ → Source → Option ℕ → Type 0
MoveFrom base x (Some to) = PlaceFrom base x to
MoveFrom base x None = Unit {0}

-- the fiber's own bytes are the outermost of the inputs
abbrev pub IsLayered : Source → List Reading → Type 0
IsLayered Main [] = Unit {0}
IsLayered Main (r ∷ rs) = ⊥
IsLayered (Given b) [] = ⊥
IsLayered (Given b) (r ∷ rs) = IsLayered r.source rs

-- nor is that of the input outside, if there is one
abbrev pub OuterFrom : ℕ → List Reading → Type 0
OuterFrom base [] = Unit {0}
OuterFrom base (r ∷ rs) = PlaceFrom base r.source r.place

-- what the input outside holds
abbrev pub source_outside : Source → List Reading → Source
source_outside x [] = x
source_outside x (r ∷ rs) = r.source

-- the inputs round that one
abbrev pub readings_outside : List Reading → List Reading
readings_outside [] = []
readings_outside (r ∷ rs) = rs

-- None of the places that open constructs still need is before the base, each in the input that is at hand where the construct is the
-- innermost. Behind a `&parse-from` that is the input outside.
abbrev pub ScopesFrom : ℕ → Source → List Reading → List Scope → Type 0
ScopesFrom base x rs [] = Unit {0}
ScopesFrom base x rs (InFrom level at ∷ scopes) = OuterFrom base rs × ScopesFrom base (source_outside x rs) (readings_outside rs) scopes
ScopesFrom base x rs (InUnit true instance start self locals ∷ scopes) = PlaceFrom base x start × ScopesFrom base x rs scopes
ScopesFrom base x rs (InAt level at ∷ scopes) = PlaceFrom base x at × ScopesFrom base x rs scopes
ScopesFrom base x rs (InTry tries place unset ∷ scopes) = PlaceFrom base x place × ScopesFrom base x rs scopes
ScopesFrom base x rs (_ ∷ scopes) = ScopesFrom base x rs scopes

-- the open constructs of frames
abbrev pub scopes_of : List Frame → List Scope
scopes_of [] = []
scopes_of (f ∷ fs) = f.scope ∷ scopes_of fs

-- neither the next byte, nor the place to which the input is to move, nor those of the frames are before the base
abbrev pub StateFrom : ℕ → List Frame → State → Type 0
StateFrom base fs st =
    IsLayered st.now.source st.outer × PlaceFrom base st.now.source st.now.place × MoveFrom base st.now.source st.move
    × ScopesFrom base st.now.source st.outer (scopes_of fs)

-- so a run from here looks at none of the fiber's own bytes before the base
abbrev pub From : ℕ → Config → Type 0
From base (At pc vs fs st) = StateFrom base fs st
From base (Ending how fs st) = StateFrom base fs st

-- A machine that is lent only the bytes from such a base on does the step that it does on the whole input.
abbrev pub WindowsServe : Type 0
WindowsServe =
    (p : Plain) (verdict : ℕ → List ℕ → Bool → Verdict) (base : ℕ) (s : List ℕ) (close : Close) (c : Config) → base ≤ length s → From base c →
    step p (reads_window verdict base (drop base s) close) c ≡ step p (reads verdict s close) c

-- A step leads to no place before the base.
abbrev pub PlacesStay : Type 0
PlacesStay =
    (p : Plain) (verdict : ℕ → List ℕ → Bool → Verdict) (base : ℕ) (s : List ℕ) (close : Close) (c d : Config) (es : List What) → From base c →
    step p (reads verdict s close) c ≡ Goes es d → From base d

-- What such a machine has done over its window, it does over the whole input, and comes to no place before the base.
abbrev pub WindowsRun : Type 0
WindowsRun =
    (p : Plain) (verdict : ℕ → List ℕ → Bool → Verdict) (base : ℕ) (s : List ℕ) (close : Close) (c d : Config) (es : List What) → base ≤ length s → From base c →
    Comes p (reads_window verdict base (drop base s) close) c es d → Comes p (reads verdict s close) c es d × From base d

-- A machine that waits doesn't look before the least place that its frames still need, so all bytes before it may be dropped.
abbrev pub MarksServe : Type 0
MarksServe =
    (p : Plain) (verdict : ℕ → List ℕ → Bool → Verdict) (base : ℕ) (s : List ℕ) (close : Close) (pc : ℕ) (vs : List Val) (fs : List Frame) (st : State) (mark : ℕ) →
    From base (At pc vs fs st) → step p (reads verdict s close) (At pc vs fs st) ≡ Waits mark →
    (low : ℕ) → low ≤ low_of fs mark → From low (At pc vs fs st)
