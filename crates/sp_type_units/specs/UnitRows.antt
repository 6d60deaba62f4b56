-- A unit of the typed list.
use Rattle.std.specs.Prelude.{ℕ, ℤ, suc, Bool, false, ◌||◌, List, [], ◌∷◌, Option, Some, None}
use Rattle.sp_ast.specs.Trees.{Tree, Trees, absent, row, node, none, more, span_of}
use Rattle.sp_ast.specs.declared.forms.Form.TheVariants as form_is
use Rattle.sp_ast.specs.declared.forms.DeclForm.TheVariants as decl_is
use Rattle.sp_types.specs.Types.{Ty, word}
use Rattle.sp_types.specs.declared.words.Word.TheVariants as word_is
use Rattle.sp_typed.specs.declared.words.Standing.TheVariants as standing_is
use Rattle.sp_typed.specs.declared.words.UnitMethod.{UnitMethod}
use Rattle.sp_typed.specs.declared.words.UnitMethod.TheVariants as method_is
use Rattle.sp_typed_units.specs.declared.declarations.Parameter.{Parameter}
use Rattle.sp_typed_units.specs.declared.declarations.Member.{Member}
use Rattle.sp_typed_units.specs.declared.declarations.Variable.{Variable}
use Rattle.sp_typed_units.specs.declared.declarations.Unit.{Unit}
use Rattle.sp_typed_units.specs.Parts.{Part, parts}
use Rattle.sp_type_context.specs.Contexts.{Around}
use Rattle.sp_type_fields.specs.Values.{Values}
use Rattle.sp_type_fields.specs.Parts.{Fields}
use Rattle.sp_type_scopes.specs.Decorators.{with_self}
use Rattle.sp_type_scopes.specs.Parameters.{parameters_in, with_parameters}
use Rattle.sp_type_context.specs.Names.{path_of}
use Rattle.sp_names.specs.declared.rows.Declaration.{Declaration}
use Rattle.sp_names.specs.Declarations.{name_of, module_name, module_at}
use Rattle.sp_type_modules.specs.Members.{UnitMember, members_of, unit_items, declared_unit, unit_declaration}
use Rattle.sp_type_modules.specs.Arounds.{stored_by, kind_type}
use Rattle.sp_type_modules.specs.Taken.{taken_places}
use Rattle.sp_type_fields.specs.Fields.{field_type}
use Rattle.sp_type_hook_order.specs.declared.keys.HookKey.{HookKey}
use Rattle.sp_type_hook_rows.specs.declared.sites.Site.{Site}
use Rattle.sp_type_unit_calls.specs.PartCalls.{parts_call, variables_call}
use Rattle.sp_type_units.specs.declared.calls.UnitCalls.{UnitCalls}
use Rattle.sp_type_units.specs.Fields.{unit_fields}
use Rattle.sp_type_units.specs.Items.{variables_in, sinks_in, orders_in, parts_in, has_filter}

-- the name of a declaration of a type, and whether it is public
abbrev pub type_name : Tree → Tree
type_name (node (form_is.Decl (decl_is.Type _)) span (more name ts)) = name
type_name _ = absent

abbrev pub is_public : Tree → Bool
is_public (node (form_is.Decl (decl_is.Type public)) span ts) = public
is_public _ = false

abbrev pub parameter_trees : Tree → Trees
parameter_trees (node form_is.Unit span (more (row ps) ts)) = ps
parameter_trees _ = none

-- Members whose first has the number k, where these types are stored in the members of the unit.
abbrev pub member_rows : (ℕ → Ty) → ℕ → List UnitMember → List Member
member_rows stored k [] = []
member_rows stored k (m ∷ ms) = record { name = m.name; kind = m.kind; ty = kind_type stored k m.kind } ∷ member_rows stored (suc k) ms

-- What stands round the expressions of the unit n with these parameters, where `g` stands round those of its module: it sees
-- its parameters by their names, and `self` is the unit.
abbrev pub inside_unit : ℕ → List Parameter → Around → Around
inside_unit n ps g = with_self (word (word_is.Unit n)) standing_is.Meant (with_parameters 0 false ps g)

-- whether a unit calls a method, in its hooks, in its variables or in its parts
abbrev pub calls_method : UnitMethod → Bool → List Variable → List Part → Bool
calls_method k in_hooks vs ps = in_hooks || (variables_call k vs || parts_call k (parts ps))

-- no declaration has this number
abbrev pub no_unit : Unit
no_unit = record {
  path = [];
  «module» = 0;
  span = record { from = 0; to = 0 };
  public = false;
  parameters = [];
  members = [];
  variables = [];
  sinks = [];
  parts = [];
  orders = [];
  filter = false;
  uses_input = false;
  connects_filter = false;
}

-- The types of what is stored in the members of all units, the places of hooks, what each hook hangs on with the ranks, and what
-- constants are worth.
module _ (list : List Tree) (known : ℕ → Option Ty) (ss : List Site) (hooks : List (Option HookKey) × List ℤ) (v : Values) where
  -- what the unit n knows of its fields: a name comes twice as the types of what fields store tell
  abbrev pub fields_in : ℕ → Tree → Around → Fields
  fields_in n unit g = unit_fields list ss hooks n (members_of unit) (taken_places (field_type g v) unit)

  -- the row of a unit with these parameters, where `g` stands round its expressions, and this is known of its fields
  abbrev pub row_with : UnitCalls → ℕ → Declaration → Tree → List Parameter → Around → Fields → Unit
  row_with calls n d unit ps g f = record {
    path = path_of (module_name (module_at list d.«module»)) (name_of (type_name d.tree));
    «module» = d.«module»;
    span = span_of (type_name d.tree);
    public = is_public d.tree;
    parameters = ps;
    members = member_rows (stored_by list known n) 0 (members_of unit);
    variables = variables_in g f (unit_items unit);
    sinks = sinks_in f (unit_items unit);
    parts = parts_in g v f (unit_items unit);
    orders = orders_in g v d.«module» (unit_items unit);
    filter = has_filter (unit_items unit);
    uses_input = calls_method method_is.Input calls.input (variables_in g f (unit_items unit)) (parts_in g v f (unit_items unit));
    connects_filter = calls_method method_is.ConnectFilter calls.connect_filter (variables_in g f (unit_items unit)) (parts_in g v f (unit_items unit));
  }

  abbrev pub row_inside : UnitCalls → ℕ → Declaration → Tree → List Parameter → Around → Unit
  row_inside calls n d unit ps g = row_with calls n d unit ps g (fields_in n unit g)

  abbrev pub row_after : UnitCalls → ℕ → Declaration → Tree → Around → List Parameter → Unit
  row_after calls n d unit g ps = row_inside calls n d unit ps (inside_unit n ps g)

  abbrev pub declared_row : UnitCalls → Around → ℕ → Option Declaration → Unit
  declared_row calls g n None = no_unit
  declared_row calls g n (Some d) =
      row_after calls n d (declared_unit (Some d)) g (parameters_in g (parameter_trees (declared_unit (Some d))))

  -- The row of the unit n, whose hooks call these, where `g` stands round the expressions of its module.
  abbrev pub unit_row : UnitCalls → Around → ℕ → Unit
  unit_row calls g n = declared_row calls g n (unit_declaration list n)
