-- A machine that runs a unit of integers has told the unit's meaning wherever it stops, on each front of an input.
use Rattle.std.specs.Prelude.{◌≡◌, ℕ, ◌<◌, Bool, List, ◌++◌}
use Rattle.sp_base.specs.Input.{Close, held_open, ended}
use Rattle.sp_events.specs.declared.event.What.{What}
use Rattle.sp_value.specs.Val.{Val, unit}
use Rattle.sp_typed_units.specs.declared.declarations.Typed.{Typed}
use Rattle.sp_meaning_states.specs.States.{Reading, End, Gives, Failed, end_of, events_of}
use Rattle.sp_meaning_states.specs.Reads.{Ask, Read, Verdict, reads}
use Rattle.sp_code.specs.Machine.{Plain, Config, step}
use Rattle.sp_code.specs.Runs.{Comes}
use Rattle.sp_code.specs.Shapes.{Shapes}
use Rattle.sp_law_machine.specs.continues.Laws.{IsSteady}
use Rattle.sp_law_machine.specs.ends.Ending.{IsStop}
use Rattle.sp_law_programs.specs.finished_bodies.Laws.{IsFinished}
use Rattle.sp_law_programs.specs.unit_told.Told.{started, meant, IsNeed, Tells}
use Rattle.sp_law_programs.specs.finished_units.Fuel.{IsUnitEnd}
use Rattle.sp_law_programs.specs.finished_units.Meaning.{meaning, RunsUnit}

-- What a unit means at a fuel is its meaning where the fuel is above the turns, and also where the unit is finished at it, whatever stands
-- in the unit.
abbrev pub FuelsAgree : Type 0
FuelsAgree =
    (p : Plain) (hook_names : List (List ℕ)) (list : Typed) (reads : Reading → Ask → Read) (n u : ℕ) (ws : List Val) →
    (p.limits.turns < n → meant p hook_names list reads n u ws ≡ meaning p hook_names list reads u ws)
    × (IsFinished (meant p hook_names list reads n u ws) → meant p hook_names list reads n u ws ≡ meaning p hook_names list reads u ws)

-- The meaning of a unit that a program runs is finished: the unit gives its instance, which is the first one, fails or waits, whatever is
-- read.
abbrev pub MeaningsEnd : Type 0
MeaningsEnd =
    (p : Plain) (shapes : Shapes) (hook_names : List (List ℕ)) (list : Typed) (at u : ℕ) (ws : List Val) → RunsUnit p shapes hook_names list at u ws →
    (reads : Reading → Ask → Read) → IsFinished (meaning p hook_names list reads u ws) × IsUnitEnd 0 (end_of (meaning p hook_names list reads u ws))

-- A machine that is started on such a unit comes to a stop at which it has told the meaning.
abbrev pub MeaningsAreReached : Type 0
MeaningsAreReached =
    (p : Plain) (shapes : Shapes) (hook_names : List (List ℕ)) (list : Typed) (at u : ℕ) (ws : List Val) → RunsUnit p shapes hook_names list at u ws →
    (reads : Reading → Ask → Read) →
    (d : Config) × Comes p reads (started at ws) (events_of (meaning p hook_names list reads u ws)) d × IsStop (step p reads d)
    × Tells p reads d (events_of (meaning p hook_names list reads u ws)) (meaning p hook_names list reads u ws)

-- And wherever it stops, it has told the meaning: the same events; it waits exactly where the unit does, and needs the same least place;
-- and all is over exactly where the unit gives its value or fails, by the same, in the same state.
abbrev pub StopsTell : Type 0
StopsTell =
    (p : Plain) (shapes : Shapes) (hook_names : List (List ℕ)) (list : Typed) (at u : ℕ) (ws : List Val) → RunsUnit p shapes hook_names list at u ws →
    (reads : Reading → Ask → Read) (d : Config) (es : List What) → Comes p reads (started at ws) es d → IsStop (step p reads d) →
    Tells p reads d es (meaning p hook_names list reads u ws)

-- What such a unit tells on a front of an input, held open, it tells first on the whole, with any close. Where it doesn't wait on the
-- front, the whole is no more to it: it tells the same and ends the same, in the same state.
abbrev pub MeaningsStay : Type 0
MeaningsStay =
    (p : Plain) (shapes : Shapes) (hook_names : List (List ℕ)) (list : Typed) (at u : ℕ) (ws : List Val) → RunsUnit p shapes hook_names list at u ws →
    (verdict : ℕ → List ℕ → Bool → Verdict) → IsSteady verdict → (s t : List ℕ) (close : Close) →
    ((fs : List What) × (events_of (meaning p hook_names list (reads verdict (s ++ t) close) u ws) ≡ events_of (meaning p hook_names list (reads verdict s held_open) u ws) ++ fs))
    × ((IsNeed (end_of (meaning p hook_names list (reads verdict s held_open) u ws)) → ⊥) →
    meaning p hook_names list (reads verdict (s ++ t) close) u ws ≡ meaning p hook_names list (reads verdict s held_open) u ws)

-- an end at which nothing more is awaited: the unit gives the first instance, or fails
abbrev pub IsLast : End → Type 0
IsLast (Gives v) = v ≡ unit 0
IsLast (Failed e) = Unit {0}
IsLast how = ⊥

-- Over an input that is ended such a unit doesn't wait: it gives its instance or fails.
abbrev pub EndedInputsDecide : Type 0
EndedInputsDecide =
    (p : Plain) (shapes : Shapes) (hook_names : List (List ℕ)) (list : Typed) (at u : ℕ) (ws : List Val) → RunsUnit p shapes hook_names list at u ws →
    (verdict : ℕ → List ℕ → Bool → Verdict) (s : List ℕ) → IsLast (end_of (meaning p hook_names list (reads verdict s ended) u ws))

-- A machine that began on a front of an input, held open, and goes on with more of the input, has told the meaning on that wherever it
-- stops.
abbrev pub FeedsTell : Type 0
FeedsTell =
    (p : Plain) (shapes : Shapes) (hook_names : List (List ℕ)) (list : Typed) (at u : ℕ) (ws : List Val) → RunsUnit p shapes hook_names list at u ws →
    (verdict : ℕ → List ℕ → Bool → Verdict) → IsSteady verdict → (s t : List ℕ) (close : Close) (d e : Config) (es fs : List What) →
    Comes p (reads verdict s held_open) (started at ws) es d → Comes p (reads verdict (s ++ t) close) d fs e → IsStop (step p (reads verdict (s ++ t) close) e) →
    Tells p (reads verdict (s ++ t) close) e (es ++ fs) (meaning p hook_names list (reads verdict (s ++ t) close) u ws)
