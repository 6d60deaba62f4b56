use Rattle.std.proofs.Common.{◌≡◌, ◌∙◌, ap}
use Rattle.sp_solver.specs.Told.{told}
use Rattle.sp_type_scopes.specs.Parameters.{parameters_in}
use Rattle.sp_type_context.specs.Names.{path_of}
use Rattle.sp_names.specs.Declarations.{name_of, module_name, module_at}
use Rattle.sp_type_units.specs.UnitRows.{type_name, parameter_trees}
use Rattle.sp_type_units.proofs.Bodies.{row_is}
use Rattle.sp_type_units.proofs.unit.unit_in_tree.Goals as goal

pub returns : goal.returns
returns g c =
    let rows = c.args.rows.now in
    let list = rows.tables.now.0 in
    let d = c.args.declaration.now in
    let around = g.C.Context.around c.args.context.now in
    let head = c.in_ok-head.ensures in
    let path : c.in_ok-head.head.path ≡ path_of (module_name (module_at list d.«module»)) (name_of (type_name d.tree)) =
    head.path ∙ ap (λ l. path_of (module_name (module_at l d.«module»)) (name_of (type_name d.tree))) c.names.ensures in
    let ps : c.in_ok-own.own.items ≡ parameters_in around (parameter_trees c.args.tree.now) =
    c.in_ok-own.ensures ∙ ap (λ u. parameters_in around (parameter_trees u)) c.view.ensures in
    c.unit_with.ensures
    ∙ row_is list (told rows.stored.now) rows.sites.now rows.hooks.now (g.V.Constants.values c.args.constants.now) c.args.calls c.args.unit d c.args.tree.now around c.in_ok-head.head c.in_ok-own.own.items c.deref.result.now (parameters_in around (parameter_trees c.args.tree.now)) c.in_ok-inside.inside path head.owner head.span head.public c.deref.ensures.value ps c.in_ok-inside.ensures
