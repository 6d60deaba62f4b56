-- The declarations and modules of which views are: each with its parts in the order of the text.
use Rattle.std.specs.Prelude.{List, [], ◌∷◌}
use Rattle.sp_base.specs.declared.places.Span.{Span}
use Rattle.sp_ast.specs.Trees.{Tree, tree, in_row}
use Rattle.sp_ast.specs.Views.{optional_tree}
use Rattle.sp_ast.specs.declared.forms.DeclForm.{DeclForm}
use Rattle.sp_ast.specs.declared.forms.DeclForm.TheVariants as decl_is
use Rattle.sp_ast.specs.declared.forms.Form.TheVariants as form_is
use Rattle.sp_ast.specs.declared.views.decl.DeclView.{DeclView}
use Rattle.sp_ast.specs.declared.views.decl.DeclView.TheVariants as view
use Rattle.sp_ast.specs.declared.views.decl.ModuleView.{ModuleView}

-- a declaration of this alternative
abbrev decl : DeclForm → Span → List Tree → Tree
decl form span parts = tree (form_is.Decl form) span parts

abbrev pub decl_tree : Span → DeclView → Tree
decl_tree span (view.Import name) = decl decl_is.Import span (name ∷ [])
decl_tree span (view.ByteOrder path) = decl decl_is.ByteOrder span (path ∷ [])
decl_tree span (view.Version text) = decl decl_is.Version span (text ∷ [])
decl_tree span (view.On path hook_name hook) =
    decl decl_is.On span (path ∷ optional_tree hook_name ∷ hook ∷ [])
decl_tree span (view.Type public name type_) =
    decl (decl_is.Type public) span (name ∷ type_ ∷ [])
decl_tree span (view.Const public name type_ value) =
    decl (decl_is.Const public) span (name ∷ optional_tree type_ ∷ value ∷ [])
decl_tree span (view.Function public name parameters returns body) =
    decl (decl_is.Function public) span (name ∷ in_row parameters ∷ optional_tree returns ∷ body ∷ [])

abbrev pub module_tree : Span → ModuleView → Tree
module_tree span v = tree form_is.Module span (v.name ∷ in_row v.declarations ∷ [])
