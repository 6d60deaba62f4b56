use Rattle.std.proofs.Common.{◌≡◌, IfOk, subst, sym}
use Rattle.sp_type_scopes.specs.Parameters.{parameters_in}
use Rattle.sp_solver.specs.Told.{told}
use Rattle.sp_type_list_context.specs.Contexts.{in_module, parameter_trees}
use Rattle.sp_type_list_context.proofs.units.declared_parameters.Goals as goal

pub returns-in-Some : goal.returns-in-Some
returns-in-Some c =
    subst (λ u. IfOk c.unit_parameters.result (λ v. v.items ≡ parameters_in (in_module c.args.known.now.row.now.0 (told c.args.known.now.row.now.1) (told c.args.known.now.answers.now) (told c.args.stored.now) c.args.declaration.now.«module») (parameter_trees u))) (sym c.in-Some.ensures.some)
    (subst (λ g. IfOk c.unit_parameters.result (λ v. v.items ≡ parameters_in g (parameter_trees c.in-Some.unit))) c.in_module-here.ensures c.unit_parameters.ensures)
