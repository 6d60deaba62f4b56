-- Lists of modules whose literals their types have room for, and in which what is changed is a place, as in those that break no rule.
use Rattle.std.specs.Prelude.{◌≡◌, ℕ, Some, slice_get}
use Rattle.sp_typed_units.specs.declared.declarations.Function.{Function}
use Rattle.sp_typed_units.specs.declared.declarations.Hook.{Hook}
use Rattle.sp_typed_units.specs.declared.declarations.Typed.{Typed}
use Rattle.sp_typed_units.specs.declared.declarations.Unit.{Unit as TypedUnit}
use Rattle.sp_lower_stmt.specs.Literals.{StmtLiteralsFit}
use Rattle.sp_lower_unit.specs.Values.{ValuesFit}

-- so it is in the body of a function or of a hook, and in the variables of a unit
abbrev pub FunctionFits : Function → Type 0
FunctionFits x = StmtLiteralsFit x.body

abbrev pub HookFits : Hook → Type 0
HookFits x = StmtLiteralsFit x.body

abbrev pub UnitFits : TypedUnit → Type 0
UnitFits x = ValuesFit x.variables

-- so it is in each of them
pub record ListLiteralsFit (list : Typed) : Type 0 where
  pub functions : (f : ℕ) (x : Function) → slice_get list.functions f ≡ Some x → FunctionFits x
  pub hooks : (h : ℕ) (x : Hook) → slice_get list.hooks h ≡ Some x → HookFits x
  pub units : (u : ℕ) (x : TypedUnit) → slice_get list.units u ≡ Some x → UnitFits x
