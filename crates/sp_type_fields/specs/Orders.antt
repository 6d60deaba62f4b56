-- Byte orders that stand behind `%byte-order =`.
use Rattle.std.specs.Prelude.{ℕ}
use Rattle.sp_ast.specs.Trees.{Tree, span_of}
use Rattle.sp_typed.specs.Exprs.{Expr}
use Rattle.sp_typed_units.specs.declared.declarations.OrderProperty.{OrderProperty}
use Rattle.sp_type_context.specs.Contexts.{Around}
use Rattle.sp_type_fields.specs.Values.{Values}

-- one in the module of a number, with the number that it is
abbrev pub order_with : Values → ℕ → Expr → OrderProperty
order_with v m e = record { «module» = m; value = e; number = v.number e }

-- that of a path
abbrev pub order_of : Around → Values → ℕ → Tree → OrderProperty
order_of g v m path = order_with v m (g.path (span_of path) path)
