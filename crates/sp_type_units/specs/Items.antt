-- What the items of a unit give its row, each in the order of the text.
use Rattle.std.specs.Prelude.{ℕ, Bool, true, false, ◌||◌, List, [], ◌∷◌, ◌++◌, Option, Some, None}
use Rattle.sp_ast.specs.Trees.{Tree, Trees, node, none, more, span_of}
use Rattle.sp_ast.specs.declared.forms.Form.TheVariants as form_is
use Rattle.sp_ast.specs.declared.forms.ItemForm.TheVariants as item_is
use Rattle.sp_types.specs.Types.{Ty}
use Rattle.sp_typed.specs.Exprs.{Expr}
use Rattle.sp_typed_units.specs.declared.declarations.Variable.{Variable}
use Rattle.sp_typed_units.specs.declared.declarations.Sink.{Sink}
use Rattle.sp_typed_units.specs.declared.declarations.OrderProperty.{OrderProperty}
use Rattle.sp_typed_units.specs.Parts.{Part}
use Rattle.sp_type_context.specs.declared.places.Place.TheVariants.{Value}
use Rattle.sp_type_context.specs.Contexts.{Around}
use Rattle.sp_type_context.specs.Typing.{name_of, to_target}
use Rattle.sp_type_fields.specs.Values.{Values}
use Rattle.sp_type_fields.specs.Attributes.{maybe_typed}
use Rattle.sp_ast.specs.Views.{present}
use Rattle.sp_type_fields.specs.Parts.{Fields, part_of}
use Rattle.sp_type_fields.specs.Orders.{order_with}

-- what is written behind `=` goes to the type of the variable
abbrev pub brought : Ty → Option Expr → Option Expr
brought t None = None
brought t (Some e) = Some (to_target t e)

-- `var x: T = e;`
abbrev pub variable_of : Around → Fields → Tree → Tree → Option Tree → Variable
variable_of g f name t value = record {
  member = f.number (name_of name);
  span = span_of name;
  written = g.written Value t;
  taken = f.taken (span_of name);
  value = brought (g.type_in Value t) (maybe_typed g value);
}

abbrev pub variable_in : Around → Fields → Tree → List Variable
variable_in g f (node (form_is.Item item_is.Variable) span (more name (more t (more value none)))) = variable_of g f name t (present value) ∷ []
variable_in g f _ = []

abbrev pub variables_in : Around → Fields → Trees → List Variable
variables_in g f none = []
variables_in g f (more t ts) = variable_in g f t ++ variables_in g f ts

-- `sink s;`
abbrev pub sink_of : Fields → Tree → Sink
sink_of f name = record { member = f.number (name_of name); span = span_of name; taken = f.taken (span_of name) }

abbrev pub sink_in : Fields → Tree → List Sink
sink_in f (node (form_is.Item item_is.Sink) span (more name none)) = sink_of f name ∷ []
sink_in f _ = []

abbrev pub sinks_in : Fields → Trees → List Sink
sinks_in f none = []
sinks_in f (more t ts) = sink_in f t ++ sinks_in f ts

abbrev pub order_in : Around → Values → ℕ → Tree → List OrderProperty
order_in g v m (node (form_is.Item item_is.ByteOrder) span (more path none)) = order_with v m (g.path (span_of path) path) ∷ []
order_in g v m _ = []

abbrev pub orders_in : Around → Values → ℕ → Trees → List OrderProperty
orders_in g v m none = []
orders_in g v m (more t ts) = order_in g v m t ++ orders_in g v m ts

-- fields and switches
abbrev pub part_in : Around → Values → Fields → Tree → List Part
part_in g v f (node (form_is.Item item_is.Part) span (more part none)) = part_of g v f part ∷ []
part_in g v f _ = []

abbrev pub parts_in : Around → Values → Fields → Trees → List Part
parts_in g v f none = []
parts_in g v f (more t ts) = part_in g v f t ++ parts_in g v f ts

-- `%filter;`
abbrev pub is_filter : Tree → Bool
is_filter (node (form_is.Item item_is.Filter) span ts) = true
is_filter _ = false

abbrev pub has_filter : Trees → Bool
has_filter none = false
has_filter (more t ts) = is_filter t || has_filter ts
