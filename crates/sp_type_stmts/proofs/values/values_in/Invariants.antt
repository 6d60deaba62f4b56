use Rattle.std.proofs.Common.{◌≡◌, ◌++◌}
use Rattle.sp_ast.specs.Trees.{trees}
use Rattle.sp_type_stmts.specs.Values.{values_in}
use Rattle.sp_type_stmts.proofs.values.values_in.Given as goal

abbrev pub invariant-loop-tree : goal.invariant-loop-tree
invariant-loop-tree g l =
    (goal.iterator-loop-tree g).can_next l.tree-iterator × (goal.iterator-loop-tree g).is_finite l.tree-iterator
    × (l.all.items ++ (values_in (g.C.Context.around l.context) l.scope (trees l.tree-iterator)).0 ≡ (values_in (g.C.Context.around l.context) l.initial.scope (trees l.members)).0)
    × ((values_in (g.C.Context.around l.context) l.scope (trees l.tree-iterator)).1 ≡ (values_in (g.C.Context.around l.context) l.initial.scope (trees l.members)).1)
