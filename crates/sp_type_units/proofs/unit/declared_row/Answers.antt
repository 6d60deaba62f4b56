use Rattle.std.proofs.Common.{◌≡◌, subst, sym}
use Rattle.std.specs.Prelude.{IfOk}
use Rattle.sp_solver.specs.Told.{told}
use Rattle.sp_type_scopes.specs.Parameters.{parameters_in}
use Rattle.sp_type_units.specs.UnitRows.{parameter_trees, row_after}
use Rattle.sp_type_units.proofs.unit.declared_row.Goals as goal

pub returns-in-Some : goal.returns-in-Some
returns-in-Some g c =
    let rows = c.args.rows.now in
    let around = g.C.Context.around c.args.context.now in
    subst (λ t. IfOk c.unit_in_tree.result (λ u. u ≡ row_after rows.tables.now.0 (told rows.stored.now) rows.sites.now rows.hooks.now (g.V.Constants.values c.args.constants.now) c.args.calls c.args.unit c.args.declaration.now t around (parameters_in around (parameter_trees t)))) (sym c.in-Some.ensures.some) c.unit_in_tree.ensures
