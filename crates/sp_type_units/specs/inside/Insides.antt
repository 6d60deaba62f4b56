-- The row of a unit in the steps in which it is made.
use Rattle.std.specs.Prelude.{ℕ, ℤ, false, List, [], Option}
use Rattle.sp_ast.specs.Trees.{Tree, Trees, span_of}
use Rattle.sp_types.specs.Types.{Ty}
use Rattle.sp_typed.specs.declared.words.UnitMethod.TheVariants as method_is
use Rattle.sp_typed_units.specs.declared.declarations.Parameter.{Parameter}
use Rattle.sp_typed_units.specs.declared.declarations.Unit.{Unit}
use Rattle.sp_type_context.specs.Contexts.{Around}
use Rattle.sp_type_fields.specs.Values.{Values}
use Rattle.sp_type_fields.specs.Parts.{Fields}
use Rattle.sp_type_context.specs.Names.{path_of}
use Rattle.sp_names.specs.declared.rows.Declaration.{Declaration}
use Rattle.sp_names.specs.Declarations.{name_of, module_name, module_at}
use Rattle.sp_type_modules.specs.Members.{members_of, unit_items}
use Rattle.sp_type_modules.specs.Arounds.{stored_by}
use Rattle.sp_type_hook_order.specs.declared.keys.HookKey.{HookKey}
use Rattle.sp_type_hook_rows.specs.declared.sites.Site.{Site}
use Rattle.sp_type_units.specs.declared.calls.UnitCalls.{UnitCalls}
use Rattle.sp_type_units.specs.declared.tell.Head.{Head}
use Rattle.sp_type_units.specs.declared.unit.ItemRows.{ItemRows}
use Rattle.sp_type_units.specs.declared.unit.Inside.{Inside}
use Rattle.sp_type_units.specs.Items.{variables_in, sinks_in, orders_in, parts_in, has_filter}
use Rattle.sp_type_units.specs.UnitRows.{type_name, is_public, calls_method, member_rows, fields_in}

abbrev pub items_with : Around → Values → Fields → UnitCalls → ℕ → Trees → ItemRows
items_with g v f calls m ts = record {
  variables = variables_in g f ts;
  sinks = sinks_in f ts;
  parts = parts_in g v f ts;
  orders = orders_in g v m ts;
  filter = has_filter ts;
  uses_input = calls_method method_is.Input calls.input (variables_in g f ts) (parts_in g v f ts);
  connects_filter = calls_method method_is.ConnectFilter calls.connect_filter (variables_in g f ts) (parts_in g v f ts);
}

-- what is made of a unit, where `g` stands round its expressions
abbrev pub inside_with : List Tree → (ℕ → Option Ty) → List Site → List (Option HookKey) × List ℤ → Values → UnitCalls → ℕ → ℕ → Tree → Around → Inside
inside_with list known ss hooks v calls n m unit g = record {
  members = member_rows (stored_by list known n) 0 (members_of unit);
  items = items_with g v (fields_in list known ss hooks v n unit g) calls m (unit_items unit);
}

abbrev pub unit_with : Head → List Parameter → Inside → Unit
unit_with head ps x = record {
  path = head.path;
  «module» = head.«module»;
  span = head.span;
  public = head.public;
  parameters = ps;
  members = x.members;
  variables = x.items.variables;
  sinks = x.items.sinks;
  parts = x.items.parts;
  orders = x.items.orders;
  filter = x.items.filter;
  uses_input = x.items.uses_input;
  connects_filter = x.items.connects_filter;
}

-- what is no unit has a name alone
abbrev pub bare_unit : List Tree → UnitCalls → Declaration → Unit
bare_unit list calls d = record {
  path = path_of (module_name (module_at list d.«module»)) (name_of (type_name d.tree));
  «module» = d.«module»;
  span = span_of (type_name d.tree);
  public = is_public d.tree;
  parameters = [];
  members = [];
  variables = [];
  sinks = [];
  parts = [];
  orders = [];
  filter = false;
  uses_input = calls_method method_is.Input calls.input [] [];
  connects_filter = calls_method method_is.ConnectFilter calls.connect_filter [] [];
}
