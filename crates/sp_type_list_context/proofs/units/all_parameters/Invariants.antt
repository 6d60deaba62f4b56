use Rattle.std.proofs.Common.{◌≡◌, ◌++◌, drop}
use Rattle.sp_solver.specs.Told.{told}
use Rattle.sp_names.specs.declared.sort.DeclSort.TheVariants as sort_is
use Rattle.sp_names.specs.Declarations.{all_of}
use Rattle.sp_type_list_context.specs.Contexts.{all_parameters_of, all_parameters}
use Rattle.sp_type_list_context.proofs.units.all_parameters.Given as goal

abbrev pub invariant-loop-declaration : goal.invariant-loop-declaration
invariant-loop-declaration l =
    l.all.items ++ all_parameters_of l.known.row.now.0 (told l.known.row.now.1) (told l.known.answers.now) (told l.stored) (drop l.declaration-index (all_of sort_is.Unit l.known.row.now.0)) ≡ all_parameters l.known.row.now.0 (told l.known.row.now.1) (told l.known.answers.now) (told l.stored)
