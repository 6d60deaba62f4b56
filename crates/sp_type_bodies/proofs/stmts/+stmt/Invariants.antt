use Rattle.std.proofs.Common.{◌≡◌, ◌+◌, ◌*◌, ◌≤◌, ◌++◌, map}
use Rattle.sp_ast.specs.Trees.{trees, tree_size, trees_size}
use Rattle.sp_ast.specs.Views.{optional_tree}
use Rattle.sp_type_stmts.specs.Statements.{typed_stmts, typed_branches, typed_cases}
use Rattle.sp_type_bodies.specs.inside.Forms.{plain_cases}
use Rattle.sp_type_bodies.proofs.stmts.+stmt.Given as goal

abbrev pub decreases-typed_stmt : goal.decreases-typed_stmt
decreases-typed_stmt g l = 2 * tree_size l.tree.now + 1

abbrev pub decreases-block_typed : goal.decreases-block_typed
decreases-block_typed g l = 2 * tree_size l.block.now + 1

abbrev pub decreases-stmts_typed : goal.decreases-stmts_typed
decreases-stmts_typed g l = 2 * trees_size (trees l.list.now)

abbrev pub decreases-otherwise_typed : goal.decreases-otherwise_typed
decreases-otherwise_typed g l = 2 * tree_size (optional_tree l.stmt.now) + 2

abbrev pub decreases-branch_typed : goal.decreases-branch_typed
decreases-branch_typed g l = 2 * tree_size l.branch.now + 1

abbrev pub decreases-branches_typed : goal.decreases-branches_typed
decreases-branches_typed g l = 2 * trees_size (trees l.list.now)

abbrev pub decreases-if_typed : goal.decreases-if_typed
decreases-if_typed g l = 2 * (trees_size (trees l.branches.now) + tree_size (optional_tree l.otherwise.now)) + 3

abbrev pub decreases-while_typed : goal.decreases-while_typed
decreases-while_typed g l = 2 * tree_size l.inner.now + 2

abbrev pub decreases-for_typed : goal.decreases-for_typed
decreases-for_typed g l = 2 * tree_size l.inner.now + 2

abbrev pub decreases-case_typed : goal.decreases-case_typed
decreases-case_typed g l = 2 * tree_size l.case.now + 1

abbrev pub decreases-cases_typed : goal.decreases-cases_typed
decreases-cases_typed g l = 2 * trees_size (trees l.list.now)

abbrev pub decreases-switch_typed : goal.decreases-switch_typed
decreases-switch_typed g l = 2 * (trees_size (trees l.cases.now) + tree_size (optional_tree l.otherwise.now)) + 3

abbrev pub invariant-stmts_typed-loop-stmt : goal.invariant-stmts_typed-loop-stmt
invariant-stmts_typed-loop-stmt g l =
    (goal.iterator-stmts_typed-loop-stmt g).can_next l.stmt-iterator × (goal.iterator-stmts_typed-loop-stmt g).is_finite l.stmt-iterator
    × (l.all.items ++ (typed_stmts l.body (g.C.Context.around l.context) l.in_loop l.scope (trees l.stmt-iterator)).0 ≡ (typed_stmts l.body (g.C.Context.around l.context) l.in_loop l.fn.scope (trees l.list)).0)
    × ((typed_stmts l.body (g.C.Context.around l.context) l.in_loop l.scope (trees l.stmt-iterator)).1 ≡ (typed_stmts l.body (g.C.Context.around l.context) l.in_loop l.fn.scope (trees l.list)).1)
    × (trees_size (trees l.stmt-iterator) ≤ trees_size (trees l.list))

abbrev pub invariant-branches_typed-loop-branch : goal.invariant-branches_typed-loop-branch
invariant-branches_typed-loop-branch g l =
    (goal.iterator-branches_typed-loop-branch g).can_next l.branch-iterator × (goal.iterator-branches_typed-loop-branch g).is_finite l.branch-iterator
    × (l.all.items ++ (typed_branches l.body (g.C.Context.around l.context) l.in_loop l.scope (trees l.branch-iterator)).0 ≡ (typed_branches l.body (g.C.Context.around l.context) l.in_loop l.fn.scope (trees l.list)).0)
    × ((typed_branches l.body (g.C.Context.around l.context) l.in_loop l.scope (trees l.branch-iterator)).1 ≡ (typed_branches l.body (g.C.Context.around l.context) l.in_loop l.fn.scope (trees l.list)).1)
    × (trees_size (trees l.branch-iterator) ≤ trees_size (trees l.list))

abbrev pub invariant-cases_typed-loop-case : goal.invariant-cases_typed-loop-case
invariant-cases_typed-loop-case g l =
    (goal.iterator-cases_typed-loop-case g).can_next l.case-iterator × (goal.iterator-cases_typed-loop-case g).is_finite l.case-iterator
    × (plain_cases l.all.items ++ (typed_cases l.body (g.C.Context.around l.context) l.in_loop l.subject l.scope (trees l.case-iterator)).0 ≡ (typed_cases l.body (g.C.Context.around l.context) l.in_loop l.subject l.fn.scope (trees l.list)).0)
    × ((typed_cases l.body (g.C.Context.around l.context) l.in_loop l.subject l.scope (trees l.case-iterator)).1 ≡ (typed_cases l.body (g.C.Context.around l.context) l.in_loop l.subject l.fn.scope (trees l.list)).1)
    × (trees_size (trees l.case-iterator) ≤ trees_size (trees l.list))
