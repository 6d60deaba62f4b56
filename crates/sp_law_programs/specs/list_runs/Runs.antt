-- What a list of modules must give so that its program runs its units, and what a unit of a list means, without fuel and without a program.
use Rattle.std.specs.Prelude.{◌≡◌, ℕ, ◌+◌, List, [], Some, slice_get}
use Rattle.sp_base.specs.declared.places.Limits.{Limits}
use Rattle.sp_value.specs.Val.{Val}
use Rattle.sp_methods.specs.Kinds.{Have}
use Rattle.sp_typed_units.specs.declared.declarations.Function.{Function}
use Rattle.sp_typed_units.specs.declared.declarations.Hook.{Hook}
use Rattle.sp_typed_units.specs.declared.declarations.Typed.{Typed}
use Rattle.sp_typed_units.specs.declared.declarations.Unit.{Unit as TypedUnit}
use Rattle.sp_meaning_states.specs.States.{Reading, Result}
use Rattle.sp_meaning_states.specs.Reads.{Ask, Read}
use Rattle.sp_meaning.specs.Globals.{globals_of}
use Rattle.sp_code.specs.declared.program.Program.{Program}
use Rattle.sp_code_programs.specs.units.Units.{starter_kinds}
use Rattle.sp_code_programs.specs.programs.Whole.{IsCompiled}
use Rattle.sp_law_programs.specs.finished_bodies.Built.{StmtIsBuilt}
use Rattle.sp_law_programs.specs.finished_units.Built.{HookIsBuilt, UnitIsBuilt}
use Rattle.sp_law_programs.specs.whole_program.Fits.{AlwaysFits}
use Rattle.sp_law_programs.specs.whole_program.Meant.{list_means}

-- all bodies are built of what has a meaning
pub record BodiesAreBuilt (list : Typed) : Type 0 where
  pub functions : (f : ℕ) (x : Function) → slice_get list.functions f ≡ Some x → StmtIsBuilt (globals_of list) list.functions x.body
  pub hooks : (h : ℕ) (x : Hook) → slice_get list.hooks h ≡ Some x → HookIsBuilt list x

-- and so are all units
abbrev pub UnitsAreBuilt : Typed → Type 0
UnitsAreBuilt list = (u : ℕ) (x : TypedUnit) → slice_get list.units u ≡ Some x → UnitIsBuilt list u x

-- All that is asked of a list so that each of its units runs, whatever is its program: it fits, and it is built. Whether it is so can be
-- decided from the list alone, body by body and unit by unit.
pub record AlwaysRuns (list : Typed) : Type 0 where
  pub fits : AlwaysFits list
  pub bodies : BodiesAreBuilt list
  pub units : UnitsAreBuilt list

-- The unit u of a list, with arguments of the kinds of its parameters, the last first, and a compiled program of the list. The list fits
-- in whatever is its program, and its bodies and this unit are built of what has a meaning.
pub record IsRunnable (list : Typed) (program : Program) (u : ℕ) (ws : List Val) : Type 0 where
  pub compiled : IsCompiled list program
  pub fits : AlwaysFits list
  pub bodies : BodiesAreBuilt list
  pub unit : TypedUnit
  pub listed : slice_get list.units u ≡ Some unit
  pub built : UnitIsBuilt list u unit
  pub arguments : Have [] (starter_kinds list unit) ws

-- what the unit u of a list means within limits with these arguments, the last first, from the first state on
abbrev pub list_meaning : Typed → Limits → (Reading → Ask → Read) → ℕ → List Val → Result
list_meaning list limits reads u ws = list_means list limits reads (limits.turns + 1) u ws
