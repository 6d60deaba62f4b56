-- The typed expressions of a body.
use Rattle.std.specs.Prelude.{List, [], ◌∷◌}
use Rattle.sp_ast.specs.Trees.{Tree, Trees, none, more}
use Rattle.sp_typed.specs.Exprs.{Expr}
use Rattle.sp_type_context.specs.Contexts.{Around}
use Rattle.sp_type_context.specs.Typing.{typed}
use Rattle.sp_type_stmts.specs.Scopes.{Scope}
use Rattle.sp_type_stmts.specs.Visible.{with_locals}
use Rattle.sp_type_stmts.specs.Owners.{kept}

-- an expression of a body, where its locals are seen, and the scope behind it
abbrev pub value_in : Around → Scope → Tree → Expr × Scope
value_in g sc t = kept sc (typed (with_locals sc.locals g) t)

-- several, one behind another
abbrev pub values_in : Around → Scope → Trees → List Expr × Scope
values_in g sc none = ([], sc)
values_in g sc (more t ts) = let x = value_in g sc t in let xs = values_in g x.1 ts in (x.0 ∷ xs.0, xs.1)
