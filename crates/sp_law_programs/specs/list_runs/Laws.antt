-- The program of a list of modules that fits runs each of its units that is built, and what its machine tells is what the unit means by
-- the list.
use Rattle.std.specs.Prelude.{◌≡◌, ℕ, Bool, List, [], ◌++◌, Some, slice_get}
use Rattle.sp_base.specs.Input.{Close, held_open, ended}
use Rattle.sp_base.specs.declared.places.Limits.{Limits}
use Rattle.sp_events.specs.declared.event.What.{What}
use Rattle.sp_value.specs.Val.{Val}
use Rattle.sp_methods.specs.Kinds.{Have}
use Rattle.sp_typed_units.specs.declared.declarations.Typed.{Typed}
use Rattle.sp_typed_units.specs.declared.declarations.Unit.{Unit as TypedUnit}
use Rattle.sp_meaning_states.specs.States.{Reading, Result, end_of, events_of}
use Rattle.sp_meaning_states.specs.Reads.{Ask, Read, Verdict, reads}
use Rattle.sp_code.specs.declared.program.Program.{Program}
use Rattle.sp_code.specs.Machine.{Plain, Config, step}
use Rattle.sp_code.specs.Programs.{plain_of, shapes_of, IsSoundProgram}
use Rattle.sp_code.specs.Runs.{Comes}
use Rattle.sp_code.specs.Shapes.{Shapes, Shaped}
use Rattle.sp_code_programs.specs.units.Units.{starter_kinds}
use Rattle.sp_meaning.specs.Names.{hook_names_of}
use Rattle.sp_code_programs.specs.programs.Whole.{starter_at, IsProgramOf, IsCompiled}
use Rattle.sp_law_meaning.specs.Standing.{ListStands}
use Rattle.sp_law_machine.specs.continues.Laws.{IsSteady}
use Rattle.sp_law_machine.specs.ends.Ending.{IsStop}
use Rattle.sp_law_programs.specs.finished_bodies.Finished.{FunctionsFit}
use Rattle.sp_law_programs.specs.finished_bodies.Laws.{IsFinished}
use Rattle.sp_law_programs.specs.unit_told.Told.{started, IsNeed, Tells}
use Rattle.sp_law_programs.specs.finished_units.Built.{UnitIsBuilt, HooksFit}
use Rattle.sp_law_programs.specs.finished_units.Fuel.{IsUnitEnd}
use Rattle.sp_law_programs.specs.finished_units.Meaning.{meaning, RunsUnit}
use Rattle.sp_law_programs.specs.finished_units.Laws.{IsLast}
use Rattle.sp_law_programs.specs.whole_program.Fits.{ListFits, AlwaysFits}
use Rattle.sp_law_programs.specs.list_runs.Runs.{BodiesAreBuilt, AlwaysRuns, IsRunnable, list_meaning}

-- In the program of a list that fits, each function whose body is built fits however it is called, and so does each body of a hook.
abbrev pub FunctionsFitAsCalled : Type 0
FunctionsFitAsCalled = (list : Typed) (p : Plain) (shapes : Shapes) → IsProgramOf list p shapes → ListFits list p shapes → BodiesAreBuilt list → FunctionsFit p shapes list

abbrev pub HooksFitAsRun : Type 0
HooksFitAsRun = (list : Typed) (p : Plain) (shapes : Shapes) → IsProgramOf list p shapes → ListFits list p shapes → HooksFit p shapes list

-- So the program runs each unit that is built, with arguments of the kinds of its parameters.
abbrev pub ProgramsRun : Type 0
ProgramsRun =
    (list : Typed) (p : Plain) (shapes : Shapes) → IsProgramOf list p shapes → ListFits list p shapes → BodiesAreBuilt list →
    (u : ℕ) (x : TypedUnit) → slice_get list.units u ≡ Some x → UnitIsBuilt list u x → (ws : List Val) → Have [] (starter_kinds list x) ws →
    RunsUnit p shapes (hook_names_of list) list (starter_at list u) u ws

-- What a unit means in the program of a list it means by the list.
abbrev pub MeaningsAreTheLists : Type 0
MeaningsAreTheLists =
    (list : Typed) (p : Plain) (shapes : Shapes) → IsProgramOf list p shapes → (reads : Reading → Ask → Read) (u : ℕ) (ws : List Val) →
    meaning p (hook_names_of list) list reads u ws ≡ list_meaning list p.limits reads u ws

-- A compiled program of such a list is sound, and runs each unit that is built, whatever the limits; and the list names only what there
-- is, as the law on meanings asks.
abbrev pub CompiledListsRun : Type 0
CompiledListsRun =
    (list : Typed) (program : Program) → IsCompiled list program → AlwaysFits list → BodiesAreBuilt list →
    IsSoundProgram program
    × ((u : ℕ) (x : TypedUnit) → slice_get list.units u ≡ Some x → UnitIsBuilt list u x → (ws : List Val) → Have [] (starter_kinds list x) ws → (limits : Limits) →
    RunsUnit (plain_of limits program) (shapes_of program) (hook_names_of list) list (starter_at list u) u ws)
    × ListStands list

-- Where all that can be decided from a list holds of it, each of its units is runnable in its compiled program.
abbrev pub UnitsAreRunnable : Type 0
UnitsAreRunnable =
    (list : Typed) (program : Program) → IsCompiled list program → AlwaysRuns list → (u : ℕ) (x : TypedUnit) → slice_get list.units u ≡ Some x →
    (ws : List Val) → Have [] (starter_kinds list x) ws → IsRunnable list program u ws

-- A unit without parameters takes no arguments.
abbrev pub UnitsTakeNone : Type 0
UnitsTakeNone = (list : Typed) (x : TypedUnit) → x.parameters ≡ [] → Have [] (starter_kinds list x) []

-- A program in which a unit is runnable is sound; whatever the limits, its machine begins as its shapes say, and it runs the unit.
abbrev pub RunnableUnitsRun : Type 0
RunnableUnitsRun =
    (list : Typed) (program : Program) (u : ℕ) (ws : List Val) → IsRunnable list program u ws →
    IsSoundProgram program
    × ((limits : Limits) → Shaped (plain_of limits program) (shapes_of program) (started (starter_at list u) ws) × RunsUnit (plain_of limits program) (shapes_of program) (hook_names_of list) list (starter_at list u) u ws)

-- So the meaning by the list is finished: the unit gives its instance, which is the first one, fails or waits, whatever is read.
abbrev pub ListMeaningsEnd : Type 0
ListMeaningsEnd =
    (list : Typed) (program : Program) (u : ℕ) (ws : List Val) → IsRunnable list program u ws → (limits : Limits) (reads : Reading → Ask → Read) →
    IsFinished (list_meaning list limits reads u ws) × IsUnitEnd 0 (end_of (list_meaning list limits reads u ws))

-- a machine within limits that is started on the unit has told these events at a configuration
abbrev pub HasTold : Typed → Program → ℕ → List Val → Limits → (Reading → Ask → Read) → List What → Config → Type 0
HasTold list program u ws limits reads es d = Comes (plain_of limits program) reads (started (starter_at list u) ws) es d

-- A machine that is started on the unit comes to a stop at which it has told the meaning.
abbrev pub ListMeaningsAreReached : Type 0
ListMeaningsAreReached =
    (list : Typed) (program : Program) (u : ℕ) (ws : List Val) → IsRunnable list program u ws → (limits : Limits) (reads : Reading → Ask → Read) →
    (d : Config) × HasTold list program u ws limits reads (events_of (list_meaning list limits reads u ws)) d × IsStop (step (plain_of limits program) reads d)
    × Tells (plain_of limits program) reads d (events_of (list_meaning list limits reads u ws)) (list_meaning list limits reads u ws)

-- And wherever it stops, it has told the meaning.
abbrev pub ListStopsTell : Type 0
ListStopsTell =
    (list : Typed) (program : Program) (u : ℕ) (ws : List Val) → IsRunnable list program u ws → (limits : Limits) (reads : Reading → Ask → Read) (d : Config) (es : List What) →
    HasTold list program u ws limits reads es d → IsStop (step (plain_of limits program) reads d) →
    Tells (plain_of limits program) reads d es (list_meaning list limits reads u ws)

-- What is told on a front of an input is told first on the whole, and where the front doesn't wait, the whole is no more.
abbrev pub StaysOn : (front whole : Result) → Type 0
StaysOn front whole = ((fs : List What) × (events_of whole ≡ events_of front ++ fs)) × ((IsNeed (end_of front) → ⊥) → whole ≡ front)

-- So it is of the meaning on a front that is held open, and on the whole, with any close.
abbrev pub ListMeaningsStay : Type 0
ListMeaningsStay =
    (list : Typed) (program : Program) (u : ℕ) (ws : List Val) → IsRunnable list program u ws → (limits : Limits) →
    (verdict : ℕ → List ℕ → Bool → Verdict) → IsSteady verdict → (s t : List ℕ) (close : Close) →
    StaysOn (list_meaning list limits (reads verdict s held_open) u ws) (list_meaning list limits (reads verdict (s ++ t) close) u ws)

-- Over an input that is ended the unit doesn't wait: it gives its instance or fails.
abbrev pub ListEndedInputsDecide : Type 0
ListEndedInputsDecide =
    (list : Typed) (program : Program) (u : ℕ) (ws : List Val) → IsRunnable list program u ws → (limits : Limits) →
    (verdict : ℕ → List ℕ → Bool → Verdict) (s : List ℕ) → IsLast (end_of (list_meaning list limits (reads verdict s ended) u ws))

-- A machine that began on a front of an input, held open, and goes on with more of the input, has told the meaning on that wherever it
-- stops.
abbrev pub ListFeedsTell : Type 0
ListFeedsTell =
    (list : Typed) (program : Program) (u : ℕ) (ws : List Val) → IsRunnable list program u ws → (limits : Limits) →
    (verdict : ℕ → List ℕ → Bool → Verdict) → IsSteady verdict → (s t : List ℕ) (close : Close) (d e : Config) (es fs : List What) →
    HasTold list program u ws limits (reads verdict s held_open) es d → Comes (plain_of limits program) (reads verdict (s ++ t) close) d fs e →
    IsStop (step (plain_of limits program) (reads verdict (s ++ t) close) e) →
    Tells (plain_of limits program) (reads verdict (s ++ t) close) e (es ++ fs) (list_meaning list limits (reads verdict (s ++ t) close) u ws)
