use Rattle.std.proofs.Common.{◌∙◌, ap}
use Rattle.sp_ast.specs.Trees.{span_of}
use Rattle.sp_solver.specs.Told.{told}
use Rattle.sp_names.specs.Declarations.{type_tree_of}
use Rattle.sp_type_modules.specs.Members.{unit_in}
use Rattle.sp_type_modules.specs.Heads.{parameter_types}
use Rattle.sp_type_modules.proofs.Steps.{parameters_are}
use Rattle.sp_type_modules.proofs.tables.unit_table.Goals as goal

pub returns-in_ok-parameter_types-in-Some-clause-takes : goal.returns-in_ok-parameter_types-in-Some-clause-takes
returns-in_ok-parameter_types-in-Some-clause-takes c =
    let d = c.args.declaration.now in
    let unit = c.in-Some.unit in
    c.in_ok-parameter_types-in-Some.ensures
    ∙ ap (parameter_types c.args.names.now (told c.args.known.now) d.«module») (parameters_are (span_of unit) c.view.result unit (unit_in (type_tree_of d.tree)) c.view.ensures c.in-Some.ensures.some)
