use Rattle.std.proofs.Common.{◌≡◌, ◌++◌}
use Rattle.sp_solver.specs.Told.{told}
use Rattle.sp_type_modules.specs.Heads.{parameter_types}
use Rattle.sp_type_modules.proofs.tables.parameter_types.Given as goal

abbrev pub invariant-loop-parameter : goal.invariant-loop-parameter
invariant-loop-parameter l =
    (goal.iterator-loop-parameter).can_next l.parameter-iterator × (goal.iterator-loop-parameter).is_finite l.parameter-iterator
    × (l.types.items ++ parameter_types l.names (told l.known) l.owner l.parameter-iterator ≡ parameter_types l.names (told l.known) l.owner l.fn.parameters)
