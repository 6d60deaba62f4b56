use Rattle.std.proofs.Common.{◌+◌, refl, ap, ◌∙◌, arith}
use Rattle.sp_typed.specs.Exprs.{exprs}
use Rattle.sp_typed.specs.Stmts.{stmts, branch_row, case_row}
use Rattle.sp_code_programs.specs.exprs.Sizes.{expr_size}
use Rattle.sp_code_programs.specs.units.Sizes.{values_size, stmt_size, stmts_size, branches_size, cases_size}
use Rattle.sp_lower_expr.specs.Around.{layout_in}
use Rattle.sp_lower_size.proofs.Falls.{count_next, count_all, stmt_falls, branch_falls, case_falls}
use Rattle.sp_lower_size.proofs.stmts.+stmts.Goals as goal

pub stmts_size-stmt_size-requires : goal.stmts_size-stmt_size-requires
stmts_size-stmt_size-requires t c =
    let small = stmt_falls c.args.all.now c.loop-stmt.stmt-index c.stmt-item.result (omega arith) c.stmt-item.is in
    (omega arith, tt)

pub stmts_size-loop-stmt-preserved : goal.stmts_size-loop-stmt-preserved
stmts_size-loop-stmt-preserved t c =
    let l = layout_in c.args.around.now in
    count_next (λ ss. stmts_size l (stmts ss)) (stmt_size l) (λ x xs. refl) c.args.all.now c.loop-stmt.stmt-index c.stmt-item.result c.loop-stmt.total _ _ c.loop-stmt-test.true c.stmt-item.is (omega arith) c.loop-stmt.invariant

pub stmts_size-returns : goal.stmts_size-returns
stmts_size-returns t c =
    let l = layout_in c.args.around.now in
    count_all (λ ss. stmts_size l (stmts ss)) refl c.args.all.now c.loop-stmt.stmt-index c.loop-stmt.total _ (omega arith) c.loop-stmt.invariant

pub branches_size-stmt_size-requires : goal.branches_size-stmt_size-requires
branches_size-stmt_size-requires t c =
    let small = branch_falls c.args.branches.now c.loop-branch.branch-index c.branch-item.result (omega arith) c.branch-item.is in
    (omega arith, tt)

pub branches_size-loop-branch-preserved : goal.branches_size-loop-branch-preserved
branches_size-loop-branch-preserved t c =
    let l = layout_in c.args.around.now in
    let b = c.branch-item.result in
    count_next (λ bs. branches_size l (branch_row bs)) (λ x. expr_size l x.0 + (1 + (stmt_size l x.1 + 1))) (λ x xs. omega arith) c.args.branches.now c.loop-branch.branch-index b c.loop-branch.total _ _ c.loop-branch-test.true c.branch-item.is (omega arith) c.loop-branch.invariant

pub branches_size-returns : goal.branches_size-returns
branches_size-returns t c =
    let l = layout_in c.args.around.now in
    count_all (λ bs. branches_size l (branch_row bs)) refl c.args.branches.now c.loop-branch.branch-index c.loop-branch.total _ (omega arith) c.loop-branch.invariant

pub cases_size-stmt_size-requires : goal.cases_size-stmt_size-requires
cases_size-stmt_size-requires t c =
    let small = case_falls c.args.cases.now c.loop-case.case-index c.case-item.result (omega arith) c.case-item.is in
    (omega arith, tt)

pub cases_size-loop-case-preserved : goal.cases_size-loop-case-preserved
cases_size-loop-case-preserved t c =
    let l = layout_in c.args.around.now in
    let x = c.case-item.result in
    let tests = c.in_ok-tests.ensures ∙ ap (λ v. values_size l (exprs v)) c.deref.ensures.value in
    count_next (λ cs. cases_size l (case_row cs)) (λ y. values_size l (exprs y.0.items) + (1 + (stmt_size l y.1 + 1))) (λ y ys. omega arith) c.args.cases.now c.loop-case.case-index x c.loop-case.total _ _ c.loop-case-test.true c.case-item.is (omega (arith, tests)) c.loop-case.invariant

pub cases_size-returns : goal.cases_size-returns
cases_size-returns t c =
    let l = layout_in c.args.around.now in
    count_all (λ cs. cases_size l (case_row cs)) refl c.args.cases.now c.loop-case.case-index c.loop-case.total _ (omega arith) c.loop-case.invariant
