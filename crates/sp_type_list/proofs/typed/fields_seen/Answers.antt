use Rattle.std.proofs.Common.{◌≡◌, ap, subst, ◌∙◌, List, Option, map}
use Rattle.std.specs.Prelude.{IfOk}
use Rattle.sp_ast.specs.Trees.{Tree}
use Rattle.sp_types.specs.Types.{Ty}
use Rattle.sp_solver.specs.Told.{told}
use Rattle.sp_names.specs.declared.sort.DeclSort.TheVariants as sort_is
use Rattle.sp_names.specs.Declarations.{all_of}
use Rattle.sp_type_context.specs.Contexts.{Around}
use Rattle.sp_type_values.specs.Answers.{values}
use Rattle.sp_type_hook_order.specs.declared.keys.HookKey.{HookKey}
use Rattle.sp_type_hook_rows.specs.HookRows.{keys_of}
use Rattle.sp_type_hooks.specs.Fields.{seen_of}
use Rattle.sp_type_hooks.specs.inside.Tables.{Tells}
use Rattle.sp_type_list_context.specs.Contexts.{homes, seeing, unit_types, being}
use Rattle.sp_type_list_context.specs.Holds.{here_told, seeing_told, unit_told}
use Rattle.sp_type_list.proofs.typed.fields_seen.Goals as goal

pub returns : goal.returns
returns c =
    let list = c.args.known.now.row.now.0 in
    let types = told c.args.known.now.row.now.1 in
    let known = told c.args.known.now.answers.now in
    let around = homes list types known (told c.args.stored.now) in
    let worth = values list types known in
    let sites = c.args.sites.now in
    let keys = keys_of c.args.rows.now in
    let all = unit_types 0 (all_of sort_is.Unit list) in
    let tables_are : c.tables-tables.result.now.0 ≡ list = ap (λ (t : List Tree × List (Option Ty)). t.0) c.tables-tables.ensures in
    let homes_are : map here_told c.deref.result.now ≡ around = ap (map here_told) c.deref.ensures.value ∙ c.in_ok-homes.ensures in
    let seen_are : map seeing_told c.deref-3.result.now ≡ seeing around c.args.seen.now =
    ap (map seeing_told) c.deref-3.ensures.value ∙ c.in_ok-contexts.ensures ∙ ap (λ (gs : List Around). seeing gs c.args.seen.now) homes_are in
    let units_are : c.deref-2.result.now ≡ all =
    c.deref-2.ensures.value ∙ c.in_ok-units.ensures ∙ ap (λ (l : List Tree). unit_types 0 (all_of sort_is.Unit l)) (c.names.ensures ∙ tables_are) in
    let inside_are : map unit_told c.deref-5.result.now ≡ being all (seeing around c.args.seen.now) =
    ap (map unit_told) c.deref-5.ensures.value ∙ c.in_ok-inside.ensures
    ∙ ap (λ (ts : List Ty). being ts (map seeing_told c.deref-3.result.now)) units_are ∙ ap (being all) seen_are in
    let keys_are : c.deref-4.result.now ≡ keys = c.deref-4.ensures.value ∙ c.in_ok-keys.ensures in
    let by_keys : IfOk c.new.result (Tells keys (seen_of c.tables-tables.result.now.0 (map unit_told c.deref-5.result.now) worth sites)) =
    subst (λ (ks : List (Option HookKey)). IfOk c.new.result (Tells ks (seen_of c.tables-tables.result.now.0 (map unit_told c.deref-5.result.now) worth sites))) keys_are c.new.ensures in
    let by_list : IfOk c.new.result (Tells keys (seen_of list (map unit_told c.deref-5.result.now) worth sites)) =
    subst (λ (l : List Tree). IfOk c.new.result (Tells keys (seen_of l (map unit_told c.deref-5.result.now) worth sites))) tables_are by_keys in
    subst (λ (gs : List Around). IfOk c.new.result (Tells keys (seen_of list gs worth sites))) inside_are by_list
