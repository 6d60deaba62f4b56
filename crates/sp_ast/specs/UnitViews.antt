-- The units, and what stands in them, of which views are: each with its parts in the order of the text.
use Rattle.std.specs.Prelude.{List, [], ◌∷◌}
use Rattle.sp_base.specs.declared.places.Span.{Span}
use Rattle.sp_ast.specs.Trees.{Tree, tree, in_row}
use Rattle.sp_ast.specs.Views.{optional_tree}
use Rattle.sp_ast.specs.declared.forms.ItemForm.{ItemForm}
use Rattle.sp_ast.specs.declared.forms.ItemForm.TheVariants as item_is
use Rattle.sp_ast.specs.declared.forms.TargetForm.TheVariants as target_is
use Rattle.sp_ast.specs.declared.forms.PartForm.TheVariants as part_is
use Rattle.sp_ast.specs.declared.forms.GuardForm.TheVariants as guard_is
use Rattle.sp_ast.specs.declared.forms.BodyForm.TheVariants as body_is
use Rattle.sp_ast.specs.declared.forms.Form.TheVariants as form_is
use Rattle.sp_ast.specs.declared.views.unit.UnitView.{UnitView}
use Rattle.sp_ast.specs.declared.views.unit.ItemView.{ItemView}
use Rattle.sp_ast.specs.declared.views.unit.ItemView.TheVariants as item_view
use Rattle.sp_ast.specs.declared.views.unit.TargetView.{TargetView}
use Rattle.sp_ast.specs.declared.views.unit.TargetView.TheVariants as target_view
use Rattle.sp_ast.specs.declared.views.unit.PartView.{PartView}
use Rattle.sp_ast.specs.declared.views.unit.PartView.TheVariants as part_view
use Rattle.sp_ast.specs.declared.views.unit.ArmView.{ArmView}
use Rattle.sp_ast.specs.declared.views.unit.GuardView.{GuardView}
use Rattle.sp_ast.specs.declared.views.unit.GuardView.TheVariants as guard_view
use Rattle.sp_ast.specs.declared.views.unit.BodyView.{BodyView}
use Rattle.sp_ast.specs.declared.views.unit.BodyView.TheVariants as body_view
use Rattle.sp_ast.specs.declared.views.unit.HookView.{HookView}
use Rattle.sp_ast.specs.declared.views.unit.HookBodyView.{HookBodyView}

abbrev pub unit_tree : Span → UnitView → Tree
unit_tree span v = tree form_is.Unit span (in_row v.parameters ∷ in_row v.items ∷ [])

-- an item of this alternative
abbrev item : ItemForm → Span → List Tree → Tree
item form span parts = tree (form_is.Item form) span parts

abbrev pub item_tree : Span → ItemView → Tree
item_tree span item_view.Filter = item item_is.Filter span []
item_tree span (item_view.ByteOrder path) = item item_is.ByteOrder span (path ∷ [])
item_tree span (item_view.MimeType text) = item item_is.MimeType span (text ∷ [])
item_tree span (item_view.Description text) = item item_is.Description span (text ∷ [])
item_tree span (item_view.Variable name type_ value) =
    item item_is.Variable span (name ∷ type_ ∷ optional_tree value ∷ [])
item_tree span (item_view.Sink name) = item item_is.Sink span (name ∷ [])
item_tree span (item_view.On target hook) = item item_is.On span (target ∷ hook ∷ [])
item_tree span (item_view.Part p) = item item_is.Part span (p ∷ [])

abbrev pub target_tree : Span → TargetView → Tree
target_tree span (target_view.Name text) = tree (form_is.Target (target_is.Name text.now)) span []
target_tree span (target_view.Hook name) = tree (form_is.Target (target_is.Hook name)) span []

abbrev pub part_tree : Span → PartView → Tree
part_tree span (part_view.Field field) = tree (form_is.Part part_is.Field) span (field ∷ [])
part_tree span (part_view.Switch subject arms) =
    tree (form_is.Part part_is.Switch) span (optional_tree subject ∷ in_row arms ∷ [])

abbrev pub arm_tree : Span → ArmView → Tree
arm_tree span arm = tree form_is.Arm span (arm.guard ∷ arm.body ∷ [])

abbrev pub guard_tree : Span → GuardView → Tree
guard_tree span guard_view.Otherwise = tree (form_is.Guard guard_is.Otherwise) span []
guard_tree span (guard_view.Values values) = tree (form_is.Guard guard_is.Values) span values
guard_tree span guard_view.LookAhead = tree (form_is.Guard guard_is.LookAhead) span []

abbrev pub body_tree : Span → BodyView → Tree
body_tree span body_view.Nothing = tree (form_is.Body body_is.Nothing) span []
body_tree span (body_view.One p) = tree (form_is.Body body_is.One) span (p ∷ [])
body_tree span (body_view.Many ps) = tree (form_is.Body body_is.Many) span ps

abbrev pub hook_tree : Span → HookView → Tree
hook_tree span hook = tree form_is.Hook span (in_row hook.parameters ∷ hook.body ∷ [])

abbrev pub hook_body_tree : Span → HookBodyView → Tree
hook_body_tree span body =
    tree (form_is.HookBody body.each) span (optional_tree body.priority ∷ body.block ∷ [])
