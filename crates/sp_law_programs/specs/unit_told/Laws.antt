-- What a machine that runs a unit has told where it stops is what the unit means, on each front of an input.
use Rattle.std.specs.Prelude.{◌≡◌, ℕ, Bool, List, ◌++◌}
use Rattle.sp_base.specs.Input.{Close, held_open, ended}
use Rattle.sp_events.specs.declared.event.What.{What}
use Rattle.sp_value.specs.Val.{Val}
use Rattle.sp_typed_units.specs.declared.declarations.Typed.{Typed}
use Rattle.sp_meaning_states.specs.States.{Error, Reading, State, Gives, Failed, Returned, Need, end_of, events_of}
use Rattle.sp_meaning_states.specs.Reads.{Ask, Read, Verdict, reads}
use Rattle.sp_code.specs.Machine.{Frame, Plain, Config, Next, Waits, Over, step, low_of}
use Rattle.sp_code.specs.Runs.{Comes}
use Rattle.sp_law_machine.specs.continues.Laws.{IsSteady, IsWait}
use Rattle.sp_law_machine.specs.continues.Windows.{From}
use Rattle.sp_law_machine.specs.ends.Ending.{IsStop}
use Rattle.sp_law_programs.specs.finished_bodies.Laws.{IsFinished}
use Rattle.sp_law_programs.specs.unit_told.Told.{started, Starts, meant, MayEndUnit, IsNeed, told_end, Tells}

-- A run that comes to a stop passes each configuration to which a run from the same one comes.
abbrev pub RunsPass : Type 0
RunsPass =
    (p : Plain) (reads : Reading → Ask → Read) (c d e : Config) (es fs : List What) → Comes p reads c es d → Comes p reads c fs e → IsStop (step p reads e) →
    (gs : List What) × (fs ≡ es ++ gs) × Comes p reads d gs e

-- Two runs from one configuration to stops tell the same, and stop at the same.
abbrev pub StopsAreOne : Type 0
StopsAreOne =
    (p : Plain) (reads : Reading → Ask → Read) (c d e : Config) (es fs : List What) → Comes p reads c es d → IsStop (step p reads d) → Comes p reads c fs e → IsStop (step p reads e) →
    (es ≡ fs) × (d ≡ e)

-- What the machine has done over a front of an input, held open, and then over more of the input, it does over that from the beginning.
abbrev pub RunsGoOn : Type 0
RunsGoOn =
    (p : Plain) (verdict : ℕ → List ℕ → Bool → Verdict) → IsSteady verdict → (s t : List ℕ) (close : Close) (c d e : Config) (es fs : List What) →
    Comes p (reads verdict s held_open) c es d → Comes p (reads verdict (s ++ t) close) d fs e → Comes p (reads verdict (s ++ t) close) c (es ++ fs) e

-- A unit that ends well gives its own instance, which is the first one. Else it fails, steps back, is rejected, or waits.
abbrev pub UnitsEnd : Type 0
UnitsEnd = (p : Plain) (hook_names : List (List ℕ)) (list : Typed) (reads : Reading → Ask → Read) (n u : ℕ) (ws : List Val) → MayEndUnit 0 (end_of (meant p hook_names list reads n u ws))

-- Where a unit's meaning is finished, the machine comes from the unit's starter to a stop at which it has told what the unit means,
-- whatever is read.
abbrev pub MeaningsAreTold : Type 0
MeaningsAreTold =
    (p : Plain) (reads : Reading → Ask → Read) (hook_names : List (List ℕ)) (list : Typed) (at u : ℕ) (ws : List Val) → Starts p hook_names list at u ws →
    (n : ℕ) → IsFinished (meant p hook_names list reads n u ws) →
    (d : Config) × Comes p reads (started at ws) (events_of (meant p hook_names list reads n u ws)) d × IsStop (step p reads d) × Tells p reads d (events_of (meant p hook_names list reads n u ws)) (meant p hook_names list reads n u ws)

-- And wherever the machine stops that began there, it has told what the unit means: the same events; it waits exactly where the unit
-- does, and needs the same least place; and all is over exactly where the unit gives its value or ends otherwise, by the same, in the
-- same state.
abbrev pub StopsAreMeant : Type 0
StopsAreMeant =
    (p : Plain) (reads : Reading → Ask → Read) (hook_names : List (List ℕ)) (list : Typed) (at u : ℕ) (ws : List Val) → Starts p hook_names list at u ws →
    (d : Config) (es : List What) → Comes p reads (started at ws) es d → IsStop (step p reads d) →
    (n : ℕ) → IsFinished (meant p hook_names list reads n u ws) → Tells p reads d es (meant p hook_names list reads n u ws)

-- Exactly a wait tells that more is needed, and then what its mark and the open constructs need; exactly where all is over by a value
-- that is returned, the value is told as given; and exactly where all is over by an error, the error is told.
abbrev pub EndsAreExact : Type 0
EndsAreExact =
    (fs : List Frame) (x : Next) →
    ((m : ℕ) → told_end fs x ≡ Need m → (mark : ℕ) × (x ≡ Waits mark) × (low_of fs mark ≡ m)) × ((v : Val) → told_end fs x ≡ Gives v → (st : State) × (x ≡ Over (Returned v) st))
    × ((e : Error) → told_end fs x ≡ Failed e → (st : State) × (x ≡ Over (Failed e) st))

-- What a unit tells on a front of an input, held open, it tells first on the whole, with any close. Where it doesn't wait on the front,
-- the whole is no more to it: it tells the same and ends the same, in the same state. The two meanings are finished, each at a fuel of
-- its own.
abbrev pub ToldStays : Type 0
ToldStays =
    (p : Plain) (verdict : ℕ → List ℕ → Bool → Verdict) → IsSteady verdict → (hook_names : List (List ℕ)) (list : Typed) (at u : ℕ) (ws : List Val) → Starts p hook_names list at u ws →
    (s t : List ℕ) (close : Close) (n m : ℕ) →
    IsFinished (meant p hook_names list (reads verdict s held_open) n u ws) → IsFinished (meant p hook_names list (reads verdict (s ++ t) close) m u ws) →
    ((fs : List What) × (events_of (meant p hook_names list (reads verdict (s ++ t) close) m u ws) ≡ events_of (meant p hook_names list (reads verdict s held_open) n u ws) ++ fs))
    × ((IsNeed (end_of (meant p hook_names list (reads verdict s held_open) n u ws)) → ⊥) →
    meant p hook_names list (reads verdict (s ++ t) close) m u ws ≡ meant p hook_names list (reads verdict s held_open) n u ws)

-- A step over an input that is ended doesn't wait for more of it. The fiber's own bytes are the outermost of the inputs, as in each
-- configuration to which a started machine comes.
abbrev pub EndedStepsDecide : Type 0
EndedStepsDecide =
    (p : Plain) (verdict : ℕ → List ℕ → Bool → Verdict) (base : ℕ) (s : List ℕ) (c : Config) → From base c → IsWait (step p (reads verdict s ended) c) → ⊥

-- So a unit doesn't wait where its input is ended.
abbrev pub EndedDecides : Type 0
EndedDecides =
    (p : Plain) (verdict : ℕ → List ℕ → Bool → Verdict) (hook_names : List (List ℕ)) (list : Typed) (at u : ℕ) (ws : List Val) → Starts p hook_names list at u ws →
    (s : List ℕ) (n : ℕ) → IsNeed (end_of (meant p hook_names list (reads verdict s ended) n u ws)) → ⊥

-- A machine that began on a front of an input, held open, and goes on with more of the input, has told what the unit means on that
-- wherever it stops.
abbrev pub FeedsAreMeant : Type 0
FeedsAreMeant =
    (p : Plain) (verdict : ℕ → List ℕ → Bool → Verdict) → IsSteady verdict → (hook_names : List (List ℕ)) (list : Typed) (at u : ℕ) (ws : List Val) → Starts p hook_names list at u ws →
    (s t : List ℕ) (close : Close) (d e : Config) (es fs : List What) →
    Comes p (reads verdict s held_open) (started at ws) es d → Comes p (reads verdict (s ++ t) close) d fs e → IsStop (step p (reads verdict (s ++ t) close) e) →
    (n : ℕ) → IsFinished (meant p hook_names list (reads verdict (s ++ t) close) n u ws) → Tells p (reads verdict (s ++ t) close) e (es ++ fs) (meant p hook_names list (reads verdict (s ++ t) close) n u ws)
