-- The units of a list.
use Rattle.std.specs.Prelude.{ℕ, List}
use Rattle.sp_ast.specs.Trees.{Tree}
use Rattle.sp_type_modules.specs.Members.{declared_unit, unit_declaration}

-- the unit of a number
abbrev pub unit_of : List Tree → ℕ → Tree
unit_of list n = declared_unit (unit_declaration list n)
