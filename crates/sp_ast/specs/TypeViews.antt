-- The types, and what stands in them, of which views are: each with its parts in the order of the text.
use Rattle.std.specs.Prelude.{List, [], ◌∷◌}
use Rattle.sp_base.specs.declared.places.Span.{Span}
use Rattle.sp_ast.specs.Trees.{Tree, tree, in_row}
use Rattle.sp_ast.specs.Views.{optional_tree}
use Rattle.sp_ast.specs.declared.forms.TypeForm.{TypeForm}
use Rattle.sp_ast.specs.declared.forms.TypeForm.TheVariants as type_is
use Rattle.sp_ast.specs.declared.forms.Form.TheVariants as form_is
use Rattle.sp_ast.specs.declared.views.types.TypeView.{TypeView}
use Rattle.sp_ast.specs.declared.views.types.TypeView.TheVariants as view
use Rattle.sp_ast.specs.declared.views.types.LabelView.{LabelView}
use Rattle.sp_ast.specs.declared.views.types.RangeView.{RangeView}
use Rattle.sp_ast.specs.declared.views.types.ParameterView.{ParameterView}

-- a type of this alternative
abbrev type_of : TypeForm → Span → List Tree → Tree
type_of form span parts = tree (form_is.Type form) span parts

abbrev pub type_tree : Span → TypeView → Tree
type_tree span (view.Path path) = type_of type_is.Path span (path ∷ [])
type_tree span view.Bool = type_of type_is.Bool span []
type_tree span view.Bytes = type_of type_is.Bytes span []
type_tree span view.String = type_of type_is.String span []
type_tree span view.Void = type_of type_is.Void span []
type_tree span (view.Int word) = type_of (type_is.Int word) span []
type_tree span (view.Tuple members) = type_of type_is.Tuple span members
type_tree span (view.Vector element) = type_of type_is.Vector span (element ∷ [])
type_tree span (view.Set element) = type_of type_is.Set span (element ∷ [])
type_tree span (view.Map key value) = type_of type_is.Map span (key ∷ value ∷ [])
type_tree span (view.Enum labels) = type_of type_is.Enum span labels
type_tree span (view.Bitfield width ranges) = type_of type_is.Bitfield span (width ∷ in_row ranges ∷ [])
type_tree span (view.Unit body) = type_of type_is.Unit span (body ∷ [])

abbrev pub label_tree : Span → LabelView → Tree
label_tree span label = tree form_is.Label span (label.name ∷ optional_tree label.value ∷ [])

abbrev pub range_tree : Span → RangeView → Tree
range_tree span range =
    tree form_is.Bits span (range.name ∷ range.first ∷ optional_tree range.last ∷ [])

abbrev pub parameter_tree : Span → ParameterView → Tree
parameter_tree span parameter =
    tree (form_is.Parameter parameter.inout) span (parameter.name ∷ parameter.type_ ∷ [])
