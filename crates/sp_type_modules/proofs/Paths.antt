-- The names of a path.
use Rattle.std.proofs.Common.{◌≡◌, ap, ◌∙◌, List}
use Rattle.sp_base.specs.declared.places.Span.{Span}
use Rattle.sp_ast.specs.Trees.{Tree, tree}
use Rattle.sp_ast.specs.declared.forms.Form.TheVariants as form_is
use Rattle.sp_names.specs.Faults.{path_parts}
use Rattle.sp_names.proofs.Lists.{list_of_trees}

pub parts_are : (span : Span) (path : Tree) (names : List Tree) → path ≡ tree form_is.Path span names → path_parts path ≡ names
parts_are span path names e = ap path_parts e ∙ list_of_trees names
