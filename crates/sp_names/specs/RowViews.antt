-- What stands in the row of declarations: a declaration, or an inner unit or enum.
use Rattle.std.specs.Prelude.{Bool, true, false}
use Rattle.sp_base.specs.declared.places.Span.{Span}
use Rattle.sp_ast.specs.Trees.{Tree, node}
use Rattle.sp_ast.specs.declared.forms.Form.TheVariants as form_is
use Rattle.sp_ast.specs.declared.forms.TypeForm.TheVariants as type_is
use Rattle.sp_ast.specs.declared.views.types.TypeView.TheVariants as type_view
use Rattle.sp_ast.specs.DeclViews.{decl_tree}
use Rattle.sp_ast.specs.TypeViews.{type_tree}
use Rattle.sp_names.specs.declared.rows.RowView.{RowView}
use Rattle.sp_names.specs.declared.rows.RowView.TheVariants as view

abbrev pub is_row : Tree → Bool
is_row (node (form_is.Decl _) span ts) = true
is_row (node (form_is.Type type_is.Unit) span ts) = true
is_row (node (form_is.Type type_is.Enum) span ts) = true
is_row _ = false

-- the tree of which a view is
abbrev pub row_tree : Span → RowView → Tree
row_tree span (view.Declared d) = decl_tree span d
row_tree span (view.Unit unit) = type_tree span (type_view.Unit unit)
row_tree span (view.Enum labels) = type_tree span (type_view.Enum labels)
