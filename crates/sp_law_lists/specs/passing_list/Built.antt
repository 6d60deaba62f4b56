-- Typed lists in whose bodies and variables all is built.
use Rattle.std.specs.Prelude.{Bool, true, ◌&&◌, Option, Some, None, IsTrue}
use Rattle.std.specs.List.{list_all}
use Rattle.sp_typed.specs.Exprs.{Expr}
use Rattle.sp_typed.specs.Nodes.{holds}
use Rattle.sp_typed_units.specs.declared.declarations.Function.{Function}
use Rattle.sp_typed_units.specs.declared.declarations.Hook.{Hook}
use Rattle.sp_typed_units.specs.declared.declarations.Typed.{Typed}
use Rattle.sp_typed_units.specs.declared.declarations.Unit.{Unit}
use Rattle.sp_typed_units.specs.declared.declarations.Variable.{Variable}
use Rattle.sp_law_lists.specs.known_kinds.Made.{is_built}
use Rattle.sp_law_lists.specs.known_statements.Built.{stmt_built}

abbrev pub function_built : Function → Bool
function_built f = stmt_built f.body

abbrev pub hook_built : Hook → Bool
hook_built h = stmt_built h.body

-- a value that may be left out
abbrev pub value_built : Option Expr → Bool
value_built (Some e) = holds is_built e
value_built None = true

abbrev pub variable_built : Variable → Bool
variable_built v = value_built v.value

abbrev pub unit_built : Unit → Bool
unit_built u = list_all variable_built u.variables

abbrev pub list_built : Typed → Bool
list_built t = list_all function_built t.functions && (list_all hook_built t.hooks && list_all unit_built t.units)

abbrev pub IsBuilt : Typed → Type 0
IsBuilt t = IsTrue (list_built t)
