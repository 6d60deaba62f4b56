-- The typed list of a list of modules, where its names, constants, labels and members are answered.
use Rattle.std.specs.Prelude.{ℕ, ℤ, suc, List, [], ◌∷◌, Option}
use Rattle.sp_ast.specs.Trees.{Tree}
use Rattle.sp_types.specs.Types.{Ty}
use Rattle.sp_solver.specs.Told.{told}
use Rattle.sp_typed.specs.declared.words.UnitMethod.TheVariants as method_is
use Rattle.sp_typed_units.specs.declared.declarations.Hook.{Hook}
use Rattle.sp_typed_units.specs.declared.declarations.Unit.{Unit}
use Rattle.sp_typed_units.specs.declared.declarations.Typed.{Typed}
use Rattle.sp_type_context.specs.Contexts.{Around}
use Rattle.sp_type_values.specs.declared.answer.Answer.{Answer}
use Rattle.sp_type_values.specs.Answers.{values}
use Rattle.sp_type_values.specs.TypedRows.{typed_constants, typed_enums}
use Rattle.sp_type_hook_order.specs.declared.keys.HookKey.{HookKey}
use Rattle.sp_type_hook_rows.specs.declared.sites.Site.{Site}
use Rattle.sp_type_hook_rows.specs.declared.rows.HookRow.{HookRow}
use Rattle.sp_type_hook_rows.specs.Sites.{sites}
use Rattle.sp_type_hook_rows.specs.HookRows.{hook_rows, keys_of}
use Rattle.sp_type_unit_calls.specs.HookCalling.{hooks_call}
use Rattle.sp_type_declarations.specs.Aliases.{aliases}
use Rattle.sp_type_declarations.specs.Bitfields.{typed_bitfields}
use Rattle.sp_type_declarations.specs.Conversions.{endless}
use Rattle.sp_type_units.specs.declared.calls.UnitCalls.{UnitCalls}
use Rattle.sp_type_units.specs.UnitRows.{unit_row}
use Rattle.sp_type_hooks.specs.Fields.{seen_of}
use Rattle.sp_type_hooks.specs.Hooks.{typed_hooks, ranks_of}
use Rattle.sp_type_list_context.specs.Contexts.{in_modules, homes, all_parameters, in_units, seeing_parameters}
use Rattle.sp_type_declarations.specs.FunctionsAndOrders.{ranks, orders, functions}
use Rattle.sp_type_answers.specs.Settled.{Answers}

-- which methods hooks of a unit call
abbrev pub calls_of : List Hook → ℕ → UnitCalls
calls_of hs n = record { input = hooks_call method_is.Input n hs; connect_filter = hooks_call method_is.ConnectFilter n hs }

-- the hooks as what their fields and units hang on: what each hangs on, and its rank
abbrev pub by_keys : List HookRow → List Hook → List (Option HookKey) × List ℤ
by_keys rs hs = (keys_of rs, ranks_of hs)

module _ (list : List Tree) (f : ℕ → Option Ty) (known : ℕ → Option Answer) (stored : List (Option Ty)) where
  -- hooks of these rows, where fields stand at these sites
  abbrev pub hooks_in : List Site → List HookRow → List Hook
  hooks_in ss rs =
      typed_hooks (in_modules list f known (told stored)) (ranks list f known) (seen_of list (in_units list f known (told stored)) (values list f known) ss) (all_parameters list f known (told stored)) rs

  -- units of which the first has the number n, each where this stands round the expressions of its module
  abbrev pub units_from : List Site → List HookRow → List Hook → ℕ → List Around → List Unit
  units_from ss rs hs n [] = []
  units_from ss rs hs n (g ∷ gs) =
      unit_row list (told stored) ss (by_keys rs hs) (values list f known) (calls_of hs n) g n ∷ units_from ss rs hs (suc n) gs

  abbrev pub list_with : List Site → List HookRow → List Hook → Typed
  list_with ss rs hs = record {
    units = units_from ss rs hs 0 (homes list f known (told stored));
    functions = functions list f known (told stored);
    hooks = hs;
    constants = typed_constants list f known;
    enums = typed_enums list f known;
    bitfields = typed_bitfields list;
    aliases = aliases list f;
    conversions = endless list (seeing_parameters list f known (told [])) (values list f known) stored ss;
    orders = orders list f known (told stored);
  }

  abbrev pub list_in : List Site → List HookRow → Typed
  list_in ss rs = list_with ss rs (hooks_in ss rs)

  -- The typed list.
  abbrev pub typed_list : Typed
  typed_list = list_in (sites list) (hook_rows list f)

abbrev pub typed_of : (list : List Tree) → Answers list → Typed
typed_of list a = typed_list list (told a.types) (told a.values) a.stored
