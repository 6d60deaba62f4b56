-- That more fuel changes nothing of a unit that is finished, and that a fuel above the turns suffices.
use Rattle.std.specs.Prelude.{◌≡◌, ℕ, ◌<◌, List, length, Option, Some, slice_get}
use Rattle.sp_base.specs.declared.places.Limits.{Limits}
use Rattle.sp_value.specs.Val.{Val, unit}
use Rattle.sp_methods.specs.Kinds.{Kind, Have}
use Rattle.sp_typed_units.specs.declared.declarations.Typed.{Typed}
use Rattle.sp_typed_units.specs.declared.declarations.Unit.{Unit as TypedUnit}
use Rattle.sp_meaning_states.specs.States.{Reading, State, End, Gives, Failed, Need, end_of}
use Rattle.sp_meaning_states.specs.Reads.{Ask, Read}
use Rattle.sp_meaning_states.specs.Telling.{Names}
use Rattle.sp_code_meaning.specs.Units.{unit_means}
use Rattle.sp_code.specs.Machine.{Plain}
use Rattle.sp_code.specs.Shapes.{UnitKinds, Shapes, Holds}
use Rattle.sp_law_code.specs.units.Fits.{UnitFits}
use Rattle.sp_law_code.specs.units.Keeps.{AreKindsOf}
use Rattle.sp_law_programs.specs.finished_bodies.Finished.{FunctionsFit}
use Rattle.sp_law_programs.specs.finished_bodies.Laws.{IsTheSameAtMore}
use Rattle.sp_law_programs.specs.finished_units.Built.{UnitIsBuilt, HooksFit}

-- More fuel changes nothing of a unit that is finished, whatever stands in it.
abbrev pub UnitsAreTheSameAtMore : Type 0
UnitsAreTheSameAtMore =
    (names : Names) (hook_names : List (List ℕ)) (list : Typed) (limits : Limits) (reads : Reading → Ask → Read) (u : ℕ) (ws : List Val) →
    IsTheSameAtMore (λ n. unit_means names hook_names list limits reads n u ws)

-- A fuel above the turns is as good as each other such fuel, whatever stands in the unit. The count of turns goes back to 0 where the
-- input's highest place rises, so the turns that are left where the unit is entered are no bound.
abbrev pub UnitsAreDecidedByTurns : Type 0
UnitsAreDecidedByTurns =
    (names : Names) (hook_names : List (List ℕ)) (list : Typed) (limits : Limits) (reads : Reading → Ask → Read) (u : ℕ) (ws : List Val) →
    (n m : ℕ) (st : State) → limits.turns < n → limits.turns < m →
    unit_means names hook_names list limits reads m u ws st ≡ unit_means names hook_names list limits reads n u ws st

-- the ends that a unit of integers has, whose instance has this number: it gives that instance, fails or waits
abbrev pub IsUnitEnd : ℕ → End → Type 0
IsUnitEnd i (Gives v) = v ≡ unit i
IsUnitEnd i (Failed e) = Unit {0}
IsUnitEnd i (Need m) = Unit {0}
IsUnitEnd i how = ⊥

-- Take a program with shapes by which functions and hooks fit. A unit that fits, whose kinds are these, and whose parts are all integers
-- and built of what has a meaning, has such an end at a fuel above the turns, and so it is finished: whatever is read, from each state
-- in which values have their kinds, with arguments of the kinds of its parameters, the last first.
abbrev pub UnitsAreFinished : Type 0
UnitsAreFinished =
    (p : Plain) (shapes : Shapes) (names : Names) (hook_names : List (List ℕ)) (list : Typed) (limits : Limits) (reads : Reading → Ask → Read) →
    FunctionsFit p shapes list → HooksFit p shapes list →
    (u : ℕ) (x : TypedUnit) → slice_get list.units u ≡ Some x → UnitFits p shapes list u x → UnitIsBuilt list u x →
    (kinds : UnitKinds) (ins : List Kind) → slice_get shapes.units u ≡ Some kinds → AreKindsOf x ins kinds →
    (n : ℕ) (units : List ℕ) (v : Option ℕ) (ls : List Kind) (st : State) (ws : List Val) → limits.turns < n → Holds p shapes units v ls st → Have units ins ws →
    IsUnitEnd (length st.instances) (end_of (unit_means names hook_names list limits reads n u ws st))
