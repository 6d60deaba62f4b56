-- What is true of the code of units, wherever it stands.
use Rattle.std.specs.Prelude.{◌≡◌, ℕ, ◌+◌, List, ◌++◌, length, Some, slice_get}
use Rattle.sp_value.specs.Val.{Val}
use Rattle.sp_typed_units.specs.declared.declarations.Typed.{Typed}
use Rattle.sp_typed_units.specs.declared.declarations.Unit.{Unit as TypedUnit}
use Rattle.sp_meaning_states.specs.States.{Reading, State}
use Rattle.sp_meaning_states.specs.Reads.{Ask, Read}
use Rattle.sp_code_meaning.specs.Units.{unit_means}
use Rattle.sp_code.specs.declared.instr.Instr.TheVariants as does
use Rattle.sp_code.specs.Machine.{Plain, At}
use Rattle.sp_code.specs.Runs.{Ways, leads, Runs}
use Rattle.sp_code_programs.specs.units.Bodies.{HasBodies}
use Rattle.sp_code_programs.specs.units.Units.{HasUnits}
use Rattle.sp_law_code.specs.bodies.Parts.{BodiesAreCounted}
use Rattle.sp_law_code.specs.units.Parts.{UnitsAreCounted}

-- Where a program has the bodies and the units of a list of modules, it runs from where a unit is entered, with as many values as the
-- unit takes, to what the unit means, whatever is read: it comes to the address behind that with the unit on top of what was there,
-- fails, or waits with the least place that is still needed, and tells the same. At most n calls and rounds are inside one another.
abbrev pub UnitsRun : Type 0
UnitsRun =
    (p : Plain) (reads : Reading → Ask → Read) (hook_names : List (List ℕ)) (list : Typed) → HasBodies p hook_names list → BodiesAreCounted p list → HasUnits p list → UnitsAreCounted p list →
    (n u pc : ℕ) (ws vs : List Val) (x : Ways) (st : State) → slice_get p.code pc ≡ Some (does.EnterUnit u) → ((y : TypedUnit) → slice_get list.units u ≡ Some y → length ws ≡ length y.parameters) →
    Runs p reads (At pc (ws ++ vs) x.frames st) (leads (pc + 1) vs x) (unit_means p.names hook_names list p.limits reads n u ws st)
