-- The fields, and what stands in them, of which views are: each with its parts in the order of the text.
use Rattle.std.specs.Prelude.{List, [], ◌∷◌}
use Rattle.sp_base.specs.declared.places.Span.{Span}
use Rattle.sp_ast.specs.Trees.{Tree, tree, in_row}
use Rattle.sp_ast.specs.Views.{optional_tree}
use Rattle.sp_ast.specs.declared.forms.BaseForm.{BaseForm}
use Rattle.sp_ast.specs.declared.forms.BaseForm.TheVariants as base_is
use Rattle.sp_ast.specs.declared.forms.Form.TheVariants as form_is
use Rattle.sp_ast.specs.declared.views.field.FieldView.{FieldView}
use Rattle.sp_ast.specs.declared.views.field.BaseView.{BaseView}
use Rattle.sp_ast.specs.declared.views.field.BaseView.TheVariants as view
use Rattle.sp_ast.specs.declared.views.field.AttributeView.{AttributeView}

-- the name, the base, the counts, the attributes, the condition, the sink, the hooks
abbrev pub field_tree : Span → FieldView → Tree
field_tree span field =
    tree form_is.Field span (optional_tree field.name ∷ field.base ∷ in_row field.counts ∷ in_row field.attributes ∷ optional_tree field.condition ∷ optional_tree field.sink ∷ in_row field.hooks ∷ [])

-- a base of this alternative
abbrev base : BaseForm → Span → List Tree → Tree
base form span parts = tree (form_is.Base form) span parts

abbrev pub base_tree : Span → BaseView → Tree
base_tree span (view.Type t) = base base_is.Type span (t ∷ [])
base_tree span (view.Unit path arguments) = base base_is.Unit span (path ∷ in_row arguments ∷ [])
base_tree span (view.Group inner counts attributes) =
    base base_is.Group span (inner ∷ in_row counts ∷ in_row attributes ∷ [])
base_tree span (view.Bytes bytes) = base (base_is.Bytes bytes.now) span []
base_tree span (view.Regex text) = base (base_is.Regex text.now) span []
base_tree span (view.Number word number) = base (base_is.Number word) span (number ∷ [])

abbrev pub attribute_tree : Span → AttributeView → Tree
attribute_tree span attribute =
    tree (form_is.Attribute attribute.name) span (optional_tree attribute.value ∷ [])
