use Rattle.std.proofs.Common.{◌≡◌, ◌++◌}
use Rattle.sp_ast.specs.Trees.{trees}
use Rattle.sp_type_scopes.specs.Parameters.{parameters_in}
use Rattle.sp_type_scopes.proofs.parameters.parameters_in.Given as goal

abbrev pub invariant-loop-parameter : goal.invariant-loop-parameter
invariant-loop-parameter g l =
    (goal.iterator-loop-parameter g).can_next l.parameter-iterator × (goal.iterator-loop-parameter g).is_finite l.parameter-iterator
    × (l.all.items ++ parameters_in (g.C.Context.around l.context) (trees l.parameter-iterator) ≡ parameters_in (g.C.Context.around l.context) (trees l.fn.list))
