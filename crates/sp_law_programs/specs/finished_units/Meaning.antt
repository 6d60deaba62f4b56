-- The meaning of a unit, without fuel, and the programs that run a unit of integers.
use Rattle.std.specs.Prelude.{◌≡◌, ℕ, ◌+◌, List, [], Some, slice_get}
use Rattle.sp_value.specs.Val.{Val}
use Rattle.sp_methods.specs.Kinds.{Have}
use Rattle.sp_typed_units.specs.declared.declarations.Typed.{Typed}
use Rattle.sp_meaning_states.specs.States.{Reading, Result}
use Rattle.sp_meaning_states.specs.Reads.{Ask, Read}
use Rattle.sp_code.specs.Machine.{Plain}
use Rattle.sp_code.specs.Shapes.{UnitKinds, Shapes}
use Rattle.sp_code_programs.specs.units.Units.{starter_kinds}
use Rattle.sp_law_code.specs.units.Fits.{UnitFits}
use Rattle.sp_law_code.specs.units.Keeps.{AreKindsOf}
use Rattle.sp_law_programs.specs.finished_bodies.Finished.{FunctionsFit}
use Rattle.sp_law_programs.specs.unit_told.Told.{Starts, meant}
use Rattle.sp_law_programs.specs.finished_units.Built.{UnitIsBuilt, HooksFit}

-- what a unit means with these arguments, from the first state on
abbrev pub meaning : Plain → List (List ℕ) → Typed → (Reading → Ask → Read) → ℕ → List Val → Result
meaning p hook_names list reads u ws = meant p hook_names list reads (p.limits.turns + 1) u ws

-- A program starts the unit u of a list of modules at an address, with these arguments. By its shapes functions, hooks and the unit fit; the
-- unit's parts are all integers, and built of what has a meaning; and the arguments are of the kinds of its parameters.
pub record RunsUnit (p : Plain) (shapes : Shapes) (hook_names : List (List ℕ)) (list : Typed) (at u : ℕ) (ws : List Val) : Type 0 where
  pub starts : Starts p hook_names list at u ws
  pub functions : FunctionsFit p shapes list
  pub hooks : HooksFit p shapes list
  pub fits : UnitFits p shapes list u starts.unit
  pub built : UnitIsBuilt list u starts.unit
  pub kinds : UnitKinds
  pub listed : slice_get shapes.units u ≡ Some kinds
  pub are : AreKindsOf starts.unit (starter_kinds list starts.unit) kinds
  pub arguments : Have [] (starter_kinds list starts.unit) ws
