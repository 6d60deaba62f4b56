use Rattle.std.proofs.Common.{◌≡◌, subst, ◌∙◌, List}
use Rattle.std.specs.Prelude.{IfOk}
use Rattle.sp_solver.specs.Told.{told}
use Rattle.sp_names.specs.declared.sort.DeclSort.TheVariants as sort_is
use Rattle.sp_names.specs.Declarations.{all_of}
use Rattle.sp_typed_units.specs.declared.declarations.Parameter.{Parameter}
use Rattle.sp_type_values.specs.Answers.{values}
use Rattle.sp_type_hook_rows.specs.HookRows.{keys_of}
use Rattle.sp_type_hooks.specs.Fields.{seen_of}
use Rattle.sp_type_hooks.specs.Hooks.{typed_hooks}
use Rattle.sp_type_hooks.specs.inside.Tables.{Tells}
use Rattle.sp_type_list_context.specs.Contexts.{in_modules, homes, all_parameters, seeing, unit_types, being, in_units}
use Rattle.sp_type_declarations.specs.FunctionsAndOrders.{ranks}
use Rattle.sp_type_list.proofs.typed.hooks_in.Goals as goal

pub returns : goal.returns
returns c =
    let list = c.args.known.now.row.now.0 in
    let types = told c.args.known.now.row.now.1 in
    let known = told c.args.known.now.answers.now in
    let stored = told c.args.stored.now in
    let worth = values list types known in
    let sites = c.args.sites.now in
    let rows = c.args.rows.now in
    let fields = seen_of list (in_units list types known stored) worth sites in
    let seen_are : c.in_ok-seen.seen.items ≡ all_parameters list types known stored = c.in_ok-seen.ensures ∙ c.deref.ensures.value ∙ c.in_ok-parameters.ensures in
    let tells : Tells (keys_of rows) fields c.in_ok-types.types =
    subst (λ (ps : List (List Parameter)). Tells (keys_of rows) (seen_of list (being (unit_types 0 (all_of sort_is.Unit list)) (seeing (homes list types known stored) ps)) worth sites) c.in_ok-types.types) (c.deref-2.ensures.value ∙ seen_are) c.in_ok-types.ensures in
    subst (λ (ps : List (List Parameter)). IfOk c.hooks_seeing.result (λ v. v.items ≡ typed_hooks (in_modules list types known stored) (ranks list types known) fields ps rows))
    (c.deref-3.ensures.value ∙ seen_are) (c.hooks_seeing.ensures fields tells)
