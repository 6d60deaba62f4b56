use Rattle.std.proofs.Common.{◌∙◌, ap, sym}
use Rattle.sp_solver.specs.Told.{told}
use Rattle.sp_names.proofs.Lists.{list_of_trees}
use Rattle.sp_type_modules.specs.Heads.{parameter_types, function_parameters}
use Rattle.sp_type_modules.proofs.tables.function_table.Goals as goal

pub returns-in_ok-result_type-in-Declared-Function-clause-takes : goal.returns-in_ok-result_type-in-Declared-Function-clause-takes
returns-in_ok-result_type-in-Declared-Function-clause-takes c =
    let d = c.args.declaration.now in
    let is = rw c.in-Declared-Function.field-0-is at c.in-Declared-Function.ensures in
    let parameters = ap function_parameters (sym is) ∙ list_of_trees c.in-Declared-Function.parameters in
    c.in_ok-parameter_types-in-Declared-Function.ensures ∙ ap (parameter_types c.args.names.now (told c.args.known.now) d.«module») (sym parameters)
