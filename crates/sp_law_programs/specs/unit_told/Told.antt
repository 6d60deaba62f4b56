-- Where a run of a unit begins, what the unit means from there, and what a machine has told where it stops.
use Rattle.std.specs.Prelude.{◌≡◌, ℕ, List, [], length, Some, slice_get}
use Rattle.sp_events.specs.declared.event.What.{What}
use Rattle.sp_value.specs.Val.{Val, unit}
use Rattle.sp_typed_units.specs.declared.declarations.Typed.{Typed}
use Rattle.sp_typed_units.specs.declared.declarations.Unit.{Unit as TypedUnit}
use Rattle.sp_meaning_states.specs.States.{Reading, State, End, Gives, Failed, Returned, Backs, Rejected, Need, Unfinished, Result, first, end_of, events_of, state_of}
use Rattle.sp_meaning_states.specs.Reads.{Ask, Read}
use Rattle.sp_code_meaning.specs.Units.{unit_means}
use Rattle.sp_code.specs.Machine.{Frame, Plain, Config, At, Ending, Next, Waits, Over, step, low_of}
use Rattle.sp_code_programs.specs.units.Bodies.{HasBodies}
use Rattle.sp_code_programs.specs.units.Units.{HasUnits, HasStarter}
use Rattle.sp_law_code.specs.bodies.Parts.{BodiesAreCounted}
use Rattle.sp_law_code.specs.units.Parts.{UnitsAreCounted}

-- a machine before a starter, with the arguments of its unit as operands, the last on top
abbrev pub started : ℕ → List Val → Config
started at ws = At at ws [] first

-- A program has the bodies and the units of a list of modules, and at an address a starter of their unit u, which takes as many values
-- as these arguments are.
pub record Starts (p : Plain) (hook_names : List (List ℕ)) (list : Typed) (at u : ℕ) (ws : List Val) : Type 0 where
  pub bodies : HasBodies p hook_names list
  pub bodies_are_counted : BodiesAreCounted p list
  pub units : HasUnits p list
  pub units_are_counted : UnitsAreCounted p list
  pub unit : TypedUnit
  pub listed : slice_get list.units u ≡ Some unit
  pub starter : HasStarter p list at u unit
  pub taken : length ws ≡ length unit.parameters

-- what the unit means with these arguments from the first state on; at most n calls and rounds are inside one another
abbrev pub meant : Plain → List (List ℕ) → Typed → (Reading → Ask → Read) → ℕ → ℕ → List Val → Result
meant p hook_names list reads n u ws = unit_means p.names hook_names list p.limits reads n u ws first

-- the ends that a unit has, whose instance has this number: it gives that instance, fails, steps back, is rejected, or waits
abbrev pub MayEndUnit : ℕ → End → Type 0
MayEndUnit i (Gives v) = v ≡ unit i
MayEndUnit i (Failed e) = Unit {0}
MayEndUnit i Backs = Unit {0}
MayEndUnit i Rejected = Unit {0}
MayEndUnit i (Need m) = Unit {0}
MayEndUnit i Unfinished = Unit {0}
MayEndUnit i how = ⊥

-- an end that waits for more of the input
abbrev pub IsNeed : End → Type 0
IsNeed (Need m) = Unit {0}
IsNeed how = ⊥

-- the open constructs of a machine
abbrev pub frames_of : Config → List Frame
frames_of (At pc vs fs st) = fs
frames_of (Ending how fs st) = fs

-- The end that is told by a step that stops, where these constructs are open. A wait needs the least place that is still needed; where
-- all is over by a value that is returned, the value is given. What else may be claims nothing.
abbrev pub told_end : List Frame → Next → End
told_end fs (Waits mark) = Need (low_of fs mark)
told_end fs (Over (Returned v) st) = Gives v
told_end fs (Over (Failed e) st) = Failed e
told_end fs (Over Backs st) = Backs
told_end fs (Over Rejected st) = Rejected
told_end fs x = Unfinished

-- all is over in this state, if it is over
abbrev pub IsOverIn : State → Next → Type 0
IsOverIn st (Over how s) = s ≡ st
IsOverIn st x = Unit {0}

-- A machine that has told these events and stops here has told all of a result: its events, its end, and its state if all is over.
pub record Tells (p : Plain) (reads : Reading → Ask → Read) (d : Config) (es : List What) (r : Result) : Type 0 where
  pub events : es ≡ events_of r
  pub ends : told_end (frames_of d) (step p reads d) ≡ end_of r
  pub state : IsOverIn (state_of r) (step p reads d)
