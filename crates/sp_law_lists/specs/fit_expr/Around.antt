-- What stands round an expression.
use Rattle.std.specs.Prelude.{ℕ, List, Option}
use Rattle.sp_methods.specs.Kinds.{Kind}
use Rattle.sp_types.specs.Types.{Ty}
use Rattle.sp_typed_units.specs.declared.declarations.Typed.{Typed}
use Rattle.sp_meaning.specs.Globals.{Globals, globals_of}
use Rattle.sp_code_meaning.specs.Layouts.{Layout}
use Rattle.sp_code_programs.specs.programs.Routines.{slot_kinds}

-- The list of modules; where the body at hand keeps what it sees; the types of all its locals, those of what it is handed and behind them
-- those of its slots; and its unit, where it has one.
pub record Around : Type 0 where
  pub list : Typed
  pub places : Layout
  pub locals : List Ty
  pub unit : Option ℕ

-- what the list declares
abbrev pub globals_in : Around → Globals
globals_in x = globals_of x.list

-- the kinds of the locals
abbrev pub locals_in : Around → List Kind
locals_in x = slot_kinds (globals_in x).ranges x.locals
