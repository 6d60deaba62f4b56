use Rattle.std.proofs.Common.{◌≡◌, ◌++◌, drop}
use Rattle.sp_names.specs.declared.sort.DeclSort.TheVariants as sort_is
use Rattle.sp_names.specs.Declarations.{all_of}
use Rattle.sp_type_list_context.specs.Contexts.{unit_types}
use Rattle.sp_type_list_context.proofs.units.unit_types.Given as goal

abbrev pub invariant-loop-declaration : goal.invariant-loop-declaration
invariant-loop-declaration l =
    l.all.items ++ unit_types l.unit (drop l._declaration-index l._declaration-items) ≡ unit_types 0 (all_of sort_is.Unit l.names)
