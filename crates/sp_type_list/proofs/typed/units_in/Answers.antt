use Rattle.std.proofs.Common.{ℤ, ◌≡◌, ap, ◌∙◌, List, Option, map}
use Rattle.std.proofs.lemmas.Result.{IfOk-weaker}
use Rattle.sp_ast.specs.Trees.{Tree}
use Rattle.sp_types.specs.Types.{Ty}
use Rattle.sp_solver.specs.Told.{told}
use Rattle.sp_type_values.specs.Answers.{values}
use Rattle.sp_type_hook_order.specs.declared.keys.HookKey.{HookKey}
use Rattle.sp_type_hook_rows.specs.HookRows.{keys_of}
use Rattle.sp_type_list_context.specs.Contexts.{homes}
use Rattle.sp_type_list_context.specs.Holds.{here_told}
use Rattle.sp_type_answers.specs.Lists.{by_keys, units_from}
use Rattle.sp_type_list.specs.inside.Units.{units_by}
use Rattle.sp_type_list.proofs.Units.{all_units}
use Rattle.sp_type_list.proofs.typed.units_in.Goals as goal

pub returns : goal.returns
returns c =
    let list = c.args.known.now.row.now.0 in
    let types = told c.args.known.now.row.now.1 in
    let known = told c.args.known.now.answers.now in
    let stored = c.args.stored.now in
    let sites = c.args.sites.now in
    let rows = c.args.rows.now in
    let hooks = c.args.hooks.now in
    let units = c.in_ok-units.units in
    let calls = c.in_ok-calls.calls in
    let around = homes list types known (told stored) in
    let tables_are : units.tables.now.0 ≡ list = ap (λ (t : List Tree × List (Option Ty)). t.0) (c.in_ok-units.ensures.tables ∙ c.tables-tables.ensures) in
    let hooks_are : units.hooks.now ≡ by_keys rows hooks =
    c.in_ok-units.ensures.hooks ∙ c.in_ok-table.ensures
    ∙ ap (λ (ks : List (Option HookKey)). (ks, c.in_ok-ranks_of.field-0.items)) c.in_ok-keys_of.ensures
    ∙ ap (λ (rs : List ℤ). (keys_of rows, rs)) c.in_ok-ranks_of.ensures in
    let homes_are : map here_told c.deref.result.now ≡ around = ap (map here_told) c.deref.ensures.value ∙ c.in_ok-homes.ensures in
    IfOk-weaker c.units_with.result
    (λ v. v.items ≡ units_by units.tables.now.0 (told units.stored.now) units.sites.now units.hooks.now (values list types known) calls.input calls.connect_filter 0 (map here_told c.deref.result.now))
    (λ v. v.items ≡ units_from list types known stored sites rows hooks 0 around)
    (λ v is. is ∙ all_units list types known stored sites rows hooks around units.tables.now.0 units.stored.now units.sites.now units.hooks.now calls.input calls.connect_filter (map here_told c.deref.result.now)
    tables_are c.in_ok-units.ensures.stored c.in_ok-units.ensures.sites hooks_are c.in_ok-calls.ensures.input c.in_ok-calls.ensures.connect_filter homes_are)
    c.units_with.ensures
