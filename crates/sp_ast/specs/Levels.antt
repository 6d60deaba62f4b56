-- The tree of which one level is lent.
use Rattle.sp_ast.specs.Trees.{Tree, absent, in_row, tree}
use Rattle.sp_ast.specs.declared.lent.Level.{Level}
use Rattle.sp_ast.specs.declared.lent.Level.TheVariants as level_is

abbrev pub level_tree : Level → Tree
level_tree level_is.Absent = absent
level_tree (level_is.Row parts) = in_row parts
level_tree (level_is.Of form span parts) = tree form.now span parts
