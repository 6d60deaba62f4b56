-- What the texts of each kind are built to.
use Rattle.sp_grammar.specs.declared.language.Start.{Start}
use Rattle.sp_grammar.specs.declared.language.Start.TheVariants as start
use Rattle.sp_ast.specs.declared.groups.Group.{Group}
use Rattle.sp_ast.specs.declared.groups.Group.TheVariants.{Modules as modules, Types as types, Statements as statements, Expressions as expressions}

-- the group of the tree that a text is built to
abbrev pub group_of : Start → Group
group_of start.Module = modules
group_of start.Type = types
group_of start.Stmt = statements
group_of start.Expr = expressions
