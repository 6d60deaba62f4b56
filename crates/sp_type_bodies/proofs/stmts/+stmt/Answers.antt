use Rattle.std.proofs.Common.{refl}
use Rattle.sp_ast.specs.Trees.{trees, trees_size, span_of}
use Rattle.sp_typed.specs.Stmts.{block, switch, stmts, case_row}
use Rattle.sp_type_stmts.specs.Statements.{typed_stmt, typed_stmts, typed_branch, typed_branches, typed_case, typed_cases}
use Rattle.sp_type_bodies.specs.inside.Forms.{block_tree, switch_tree, plain_case, plain_cases}
use Rattle.sp_type_stmts.proofs.Steps.{step, step_scope, mapped, less_behind}
use Rattle.sp_type_bodies.proofs.Opened.{on_ok, ok_is}
use Rattle.sp_type_bodies.proofs.Arms.{block_is, block_scope, branch_scope, if_scope, while_scope, for_scope, case_scope, switch_is, switch_scope}
use Rattle.sp_type_bodies.proofs.stmts.+stmt.Goals as goal

pub stmts_typed-loop-stmt-preserved : goal.stmts_typed-loop-stmt-preserved
stmts_typed-loop-stmt-preserved g t c =
    let around = g.C.Context.around c.args.context.now in
    let f = typed_stmt c.args.body.now around c.args.in_loop in
    let fs = typed_stmts c.args.body.now around c.args.in_loop in
    let left = c.loop-stmt.stmt-iterator in
    let behind = c.next.new.self in (
      tt,
      tt,
      step fs f (λ _ _ _. refl) c.loop-stmt.all.items c.push.new.self.items c.loop-stmt.scope c.typed_stmt.new.scope left behind c.in-Some.stmt c.in_ok-typed_stmt.field-0 (fs c.args.scope.now (trees c.args.list.now)).0 c.in-Some.ensures.steps c.in_ok-typed_stmt.ensures.stmt c.in_ok-typed_stmt.ensures.scope c.in_ok-push.ensures.items c.loop-stmt.invariant.2,
      step_scope fs f (λ _ _ _. refl) c.loop-stmt.scope c.typed_stmt.new.scope left behind c.in-Some.stmt (fs c.args.scope.now (trees c.args.list.now)).1 c.in-Some.ensures.steps c.in_ok-typed_stmt.ensures.scope c.loop-stmt.invariant.3,
      less_behind left behind c.in-Some.stmt (trees_size (trees c.args.list.now)) c.in-Some.ensures.steps c.loop-stmt.invariant.4,
    )

pub branches_typed-loop-branch-preserved : goal.branches_typed-loop-branch-preserved
branches_typed-loop-branch-preserved g t c =
    let around = g.C.Context.around c.args.context.now in
    let f = typed_branch c.args.body.now around c.args.in_loop in
    let fs = typed_branches c.args.body.now around c.args.in_loop in
    let left = c.loop-branch.branch-iterator in
    let behind = c.next.new.self in (
      tt,
      tt,
      step fs f (λ _ _ _. refl) c.loop-branch.all.items c.push.new.self.items c.loop-branch.scope c.branch_typed.new.scope left behind c.in-Some.branch c.in_ok-branch_typed.field-0 (fs c.args.scope.now (trees c.args.list.now)).0 c.in-Some.ensures.steps c.in_ok-branch_typed.ensures.branch c.in_ok-branch_typed.ensures.scope c.in_ok-push.ensures.items c.loop-branch.invariant.2,
      step_scope fs f (λ _ _ _. refl) c.loop-branch.scope c.branch_typed.new.scope left behind c.in-Some.branch (fs c.args.scope.now (trees c.args.list.now)).1 c.in-Some.ensures.steps c.in_ok-branch_typed.ensures.scope c.loop-branch.invariant.3,
      less_behind left behind c.in-Some.branch (trees_size (trees c.args.list.now)) c.in-Some.ensures.steps c.loop-branch.invariant.4,
    )

pub cases_typed-loop-case-preserved : goal.cases_typed-loop-case-preserved
cases_typed-loop-case-preserved g t c =
    let around = g.C.Context.around c.args.context.now in
    let f = typed_case c.args.body.now around c.args.in_loop c.args.subject.now in
    let fs = typed_cases c.args.body.now around c.args.in_loop c.args.subject.now in
    let left = c.loop-case.case-iterator in
    let behind = c.next.new.self in
    let made = c.in_ok-case_typed.field-0 in (
      tt,
      tt,
      step fs f (λ _ _ _. refl) (plain_cases c.loop-case.all.items) (plain_cases c.push.new.self.items) c.loop-case.scope c.case_typed.new.scope left behind c.in-Some.case (plain_case made) (fs c.args.scope.now (trees c.args.list.now)).0 c.in-Some.ensures.steps c.in_ok-case_typed.ensures.case c.in_ok-case_typed.ensures.scope (mapped plain_case c.loop-case.all.items c.push.new.self.items made c.in_ok-push.ensures.items) c.loop-case.invariant.2,
      step_scope fs f (λ _ _ _. refl) c.loop-case.scope c.case_typed.new.scope left behind c.in-Some.case (fs c.args.scope.now (trees c.args.list.now)).1 c.in-Some.ensures.steps c.in_ok-case_typed.ensures.scope c.loop-case.invariant.3,
      less_behind left behind c.in-Some.case (trees_size (trees c.args.list.now)) c.in-Some.ensures.steps c.loop-case.invariant.4,
    )

pub block_typed-returns-clause-stmt : goal.block_typed-returns-clause-stmt
block_typed-returns-clause-stmt g t c =
    let around = g.C.Context.around c.args.context.now in
    ok_is c.made.result (block (stmts c.in_ok-list.list.items)) (typed_stmt c.args.body.now around c.args.in_loop c.args.scope.now (block_tree c.args.block.now)).0
    (block_is c.args.body.now around c.args.in_loop c.args.scope.now c.args.block.now (span_of c.args.block.now) c.statements.result c.in_ok-list.list.items c.statements.ensures c.in_ok-list.ensures.stmts)
    c.made.ensures

pub block_typed-returns-clause-scope : goal.block_typed-returns-clause-scope
block_typed-returns-clause-scope g t c =
    let around = g.C.Context.around c.args.context.now in
    on_ok c.made.result
    (block_scope c.args.body.now around c.args.in_loop c.args.scope.now c.stmts_typed.new.scope c.close.new.self c.args.block.now (span_of c.args.block.now) c.statements.result c.mark-mark.result c.statements.ensures c.mark-mark.ensures c.close.ensures c.in_ok-list.ensures.scope)

pub branch_typed-returns-2-clause-scope : goal.branch_typed-returns-2-clause-scope
branch_typed-returns-2-clause-scope g t c =
    let around = g.C.Context.around c.args.context.now in
    branch_scope c.args.body.now around c.args.in_loop c.args.scope.now c.value_in.new.scope c.typed_stmt.new.scope c.close.new.self c.args.branch.now c.view-view.result.condition c.view-view.result.body (span_of c.args.branch.now) c.mark-mark.result c.view-view.ensures c.mark-mark.ensures c.in_ok-condition.ensures.scope c.in-Ok-or_drop.ensures.scope c.close.ensures

pub if_typed-returns-3-clause-scope : goal.if_typed-returns-3-clause-scope
if_typed-returns-3-clause-scope g t c =
    let around = g.C.Context.around c.args.context.now in
    on_ok c.made.result
    (if_scope c.args.body.now around c.args.in_loop c.args.scope.now c.branches_typed.new.scope c.otherwise_typed.new.scope c.close.new.self c.args.branches.now c.args.otherwise.now c.mark-mark.result c.mark-mark.ensures c.in_ok-list.ensures.scope c.in-Ok-or_drop.ensures.scope c.close.ensures)

pub while_typed-returns-3-clause-scope : goal.while_typed-returns-3-clause-scope
while_typed-returns-3-clause-scope g t c =
    let around = g.C.Context.around c.args.context.now in
    on_ok c.made.result
    (while_scope c.args.body.now around c.args.scope.now c.value_in.new.scope c.typed_stmt.new.scope c.close.new.self c.args.condition.now c.args.inner.now c.mark-mark.result c.mark-mark.ensures c.in_ok-condition.ensures.scope c.in-Ok-or_drop.ensures.scope c.close.ensures)

pub for_typed-returns-6-clause-scope : goal.for_typed-returns-6-clause-scope
for_typed-returns-6-clause-scope g t c =
    let around = g.C.Context.around c.args.context.now in
    on_ok c.made.result
    (for_scope c.args.body.now around c.args.scope.now c.value_in.new.scope c.loop_head.new.scope c.typed_stmt.new.scope c.close.new.self c.args.name.now c.args.sequence.now c.args.inner.now c.in_ok-sequence.sequence c.in-Ok-or_drop.field-0 c.in-Ok-or_drop-ty.field-0 c.mark-mark.result c.mark-mark.ensures c.in_ok-sequence.ensures.expr c.in_ok-sequence.ensures.scope c.in-Ok-or_drop.ensures c.in-Ok-or_drop-ty.ensures c.in-Ok-or_drop-head.ensures.scope c.in-Ok-or_drop-stmt.ensures.scope c.close.ensures)

pub case_typed-returns-2-clause-scope : goal.case_typed-returns-2-clause-scope
case_typed-returns-2-clause-scope g t c =
    let around = g.C.Context.around c.args.context.now in
    case_scope c.args.body.now around c.args.in_loop c.args.subject.now c.args.scope.now c.values_in.new.scope c.typed_stmt.new.scope c.close.new.self c.args.case.now c.view-view.result.body c.view-view.result.values (span_of c.args.case.now) c.mark-before.result c.view-view.ensures c.mark-before.ensures c.in_ok-values.ensures.scope c.in-Ok-or_drop.ensures.scope c.close.ensures

pub switch_typed-returns-6-clause-stmt : goal.switch_typed-returns-6-clause-stmt
switch_typed-returns-6-clause-stmt g t c =
    let around = g.C.Context.around c.args.context.now in
    ok_is c.switch_of.result (switch c.in-Ok-or_drop-slot.field-0 c.in_ok-subject.subject (case_row c.in-Ok-or_drop-list.field-0.items) c.in-Ok-or_drop-other.field-0) (typed_stmt c.args.body.now around c.args.in_loop c.args.scope.now (switch_tree c.args.subject.now c.args.cases.now c.args.otherwise.now)).0
    (switch_is c.args.body.now around c.args.in_loop c.args.scope.now c.value_in.new.scope c.take_slot.new.self c.cases_typed-list.new.scope c.args.subject.now c.args.cases.now c.args.otherwise.now c.in-Ok-or_drop-slot.field-0 c.in-Ok-or_drop.field-0 c.in-Ok-or_drop-copy.field-0 c.in_ok-subject.subject c.in-Ok-or_drop-list.field-0.items c.in-Ok-or_drop-other.field-0 c.in_ok-subject.ensures.expr c.in_ok-subject.ensures.scope c.in-Ok-or_drop.ensures c.in-Ok-or_drop-copy.ensures c.in-Ok-or_drop-slot.ensures.slot c.in-Ok-or_drop-slot.ensures.scope c.in-Ok-or_drop-list.ensures.cases c.in-Ok-or_drop-list.ensures.scope c.in-Ok-or_drop-other.ensures.stmt)
    c.switch_of.ensures

pub switch_typed-returns-6-clause-scope : goal.switch_typed-returns-6-clause-scope
switch_typed-returns-6-clause-scope g t c =
    let around = g.C.Context.around c.args.context.now in
    on_ok c.switch_of.result
    (switch_scope c.args.body.now around c.args.in_loop c.args.scope.now c.value_in.new.scope c.take_slot.new.self c.cases_typed-list.new.scope c.otherwise_typed.new.scope c.close.new.self c.args.subject.now c.args.cases.now c.args.otherwise.now c.in-Ok-or_drop.field-0 c.in-Ok-or_drop-copy.field-0 c.in_ok-subject.subject c.mark-mark.result c.mark-mark.ensures c.in_ok-subject.ensures.expr c.in_ok-subject.ensures.scope c.in-Ok-or_drop.ensures c.in-Ok-or_drop-copy.ensures c.in-Ok-or_drop-slot.ensures.scope c.in-Ok-or_drop-list.ensures.scope c.in-Ok-or_drop-other.ensures.scope c.close.ensures)
