use Rattle.std.proofs.Common.{◌≡◌, ◌+◌, ◌*◌, ◌≤◌, ◌++◌}
use Rattle.sp_ast.specs.Trees.{trees, tree_size, trees_size}
use Rattle.sp_ast.specs.ExprViews.{expr_tree}
use Rattle.sp_type_context.specs.Typing.{typed_all, pairs_typed}
use Rattle.sp_type_exprs.proofs.typing.+typed.Given as goal

abbrev pub decreases-typed : goal.decreases-typed
decreases-typed g l = 3 * tree_size l.tree.now + 2

abbrev pub decreases-operation_typed : goal.decreases-operation_typed
decreases-operation_typed g l = 3 * tree_size (expr_tree l.span l.view) + 1

abbrev pub decreases-typed_all : goal.decreases-typed_all
decreases-typed_all g l = 3 * trees_size (trees l.members.now)

abbrev pub invariant-typed_all-loop-tree : goal.invariant-typed_all-loop-tree
invariant-typed_all-loop-tree g l =
    (goal.iterator-typed_all-loop-tree g).can_next l.tree-iterator × (goal.iterator-typed_all-loop-tree g).is_finite l.tree-iterator
    × (l.all.items ++ typed_all (g.C.Context.around l.context) (trees l.tree-iterator) ≡ typed_all (g.C.Context.around l.context) (trees l.members))
    × (trees_size (trees l.tree-iterator) ≤ trees_size (trees l.members))

abbrev pub decreases-pairs_typed : goal.decreases-pairs_typed
decreases-pairs_typed g l = 3 * trees_size (trees l.pairs.now)

abbrev pub invariant-pairs_typed-loop-pair : goal.invariant-pairs_typed-loop-pair
invariant-pairs_typed-loop-pair g l =
    (goal.iterator-pairs_typed-loop-pair g).can_next l.pair-iterator × (goal.iterator-pairs_typed-loop-pair g).is_finite l.pair-iterator
    × (l.all.items ++ pairs_typed (g.C.Context.around l.context) (trees l.pair-iterator) ≡ pairs_typed (g.C.Context.around l.context) (trees l.pairs))
    × (trees_size (trees l.pair-iterator) ≤ trees_size (trees l.pairs))

abbrev pub decreases-call_typed : goal.decreases-call_typed
decreases-call_typed g l = 3 * (tree_size l.callee.now + trees_size (trees l.arguments.now)) + 4

abbrev pub decreases-choice_typed : goal.decreases-choice_typed
decreases-choice_typed g l = 3 * (tree_size l.condition.now + (tree_size l.if_true.now + tree_size l.if_false.now)) + 4

abbrev pub decreases-both_typed : goal.decreases-both_typed
decreases-both_typed g l = 3 * (tree_size l.first.now + tree_size l.second.now) + 3
