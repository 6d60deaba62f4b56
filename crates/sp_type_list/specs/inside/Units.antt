-- Units, as the code makes them.
use Rattle.std.specs.Prelude.{ℕ, ℤ, suc, List, [], ◌∷◌, Option}
use Rattle.sp_ast.specs.Trees.{Tree}
use Rattle.sp_types.specs.Types.{Ty}
use Rattle.sp_typed_units.specs.declared.declarations.Unit.{Unit}
use Rattle.sp_type_context.specs.Contexts.{Around}
use Rattle.sp_type_fields.specs.Values.{Values}
use Rattle.sp_type_hook_order.specs.declared.keys.HookKey.{HookKey}
use Rattle.sp_type_hook_rows.specs.declared.sites.Site.{Site}
use Rattle.sp_type_unit_calls.specs.HookCalling.{has}
use Rattle.sp_type_units.specs.UnitRows.{unit_row}

-- units of which the first has the number n, where hooks of these units call methods
abbrev pub units_by : List Tree → (ℕ → Option Ty) → List Site → List (Option HookKey) × List ℤ → Values → List ℕ → List ℕ → ℕ → List Around → List Unit
units_by list stored ss hooks v input filter n [] = []
units_by list stored ss hooks v input filter n (g ∷ gs) =
    unit_row list stored ss hooks v (record { input = has n input; connect_filter = has n filter }) g n ∷ units_by list stored ss hooks v input filter (suc n) gs
