use Rattle.std.proofs.Common.{◌≡◌, ◌++◌, drop}
use Rattle.sp_solver.specs.Told.{told}
use Rattle.sp_names.specs.declared.sort.DeclSort.TheVariants as sort_is
use Rattle.sp_names.specs.Declarations.{all_of}
use Rattle.sp_type_declarations.specs.FunctionsAndOrders.{functions_of, functions}
use Rattle.sp_type_declarations.proofs.function_rows.functions.Given as goal

abbrev pub invariant-loop-declaration : goal.invariant-loop-declaration
invariant-loop-declaration l =
    l.all.items ++ functions_of l.known.row.now.0 (told l.known.row.now.1) (told l.known.answers.now) (told l.stored) (drop l.declaration-index (all_of sort_is.Function l.known.row.now.0)) ≡ functions l.known.row.now.0 (told l.known.row.now.1) (told l.known.answers.now) (told l.stored)
