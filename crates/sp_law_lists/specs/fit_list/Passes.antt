-- What is true of a typed list that passes.
use Rattle.std.specs.Prelude.{◌≡◌, ℕ, Some, slice_get}
use Rattle.sp_typed.specs.Stmts.{Stmt}
use Rattle.sp_typed_units.specs.declared.declarations.Function.{Function}
use Rattle.sp_typed_units.specs.declared.declarations.Hook.{Hook}
use Rattle.sp_typed_units.specs.declared.declarations.Typed.{Typed}
use Rattle.sp_typed_units.specs.declared.declarations.Unit.{Unit as TypedUnit}
use Rattle.sp_meaning.specs.Globals.{globals_of}
use Rattle.sp_law_programs.specs.finished_bodies.Built.{StmtIsBuilt}
use Rattle.sp_law_programs.specs.finished_units.Built.{UnitIsBuilt}
use Rattle.sp_lower_stmt.specs.Literals.{StmtLiteralsFit}
use Rattle.sp_lower_unit.specs.Values.{ValuesFit}
use Rattle.sp_law_programs.specs.whole_program.Fits.{AlwaysFits}

module _ (list : Typed) where
  -- what is true of each body
  pub record Bodies (IsSo : Stmt → Type 0) : Type 0 where
    pub functions : (f : ℕ) (x : Function) → slice_get list.functions f ≡ Some x → IsSo x.body
    pub hooks : (h : ℕ) (x : Hook) → slice_get list.hooks h ≡ Some x → IsSo x.body

  -- The list fits in whatever is its program, all its bodies and units are built of what has a meaning, and the literals in them are of
  -- their types.
  pub record ListPasses : Type 0 where
    pub fits : AlwaysFits list
    pub bodies : Bodies (StmtIsBuilt (globals_of list) list.functions)
    pub units : (u : ℕ) (x : TypedUnit) → slice_get list.units u ≡ Some x → UnitIsBuilt list u x
    pub literals : Bodies StmtLiteralsFit
    pub values : (u : ℕ) (x : TypedUnit) → slice_get list.units u ≡ Some x → ValuesFit x.variables
