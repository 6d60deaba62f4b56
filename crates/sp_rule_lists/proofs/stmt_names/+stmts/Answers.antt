use Rattle.std.proofs.Common.{arith, refl, ◌++◌, sym, ap, ◌∙◌, append_assoc}
use Rattle.sp_rules.specs.Least.{checked}
use Rattle.sp_typed.specs.Exprs.{exprs}
use Rattle.sp_typed.specs.Stmts.{stmts, branch_row, case_row}
use Rattle.sp_rule_lists.specs.Names.{expr_names, exprs_names, stmt_names, stmts_names, branches_names, cases_names}
use Rattle.sp_rule_lists.proofs.Checked.{checked_more, row_step}
use Rattle.sp_rule_lists.proofs.Falls.{stmt_falls, branch_falls, case_falls}
use Rattle.sp_rule_lists.proofs.stmt_names.+stmts.Goals as goal

pub note_stmts_names-note_stmt_names-requires : goal.note_stmts_names-note_stmt_names-requires
note_stmts_names-note_stmt_names-requires t c =
    let small = stmt_falls c.args.all.now c.loop-stmt.stmt-index c.stmt-item.result (omega arith) c.stmt-item.is in
    (omega arith, tt)

pub note_branches_names-note_stmt_names-requires : goal.note_branches_names-note_stmt_names-requires
note_branches_names-note_stmt_names-requires t c =
    let small = branch_falls c.args.branches.now c.loop-branch.branch-index c.branch-item.result (omega arith) c.branch-item.is in
    (omega arith, tt)

pub note_cases_names-note_stmt_names-requires : goal.note_cases_names-note_stmt_names-requires
note_cases_names-note_stmt_names-requires t c =
    let small = case_falls c.args.cases.now c.loop-case.case-index c.case-item.result (omega arith) c.case-item.is in
    (omega arith, tt)

pub note_stmts_names-loop-stmt-preserved : goal.note_stmts_names-loop-stmt-preserved
note_stmts_names-loop-stmt-preserved t c =
    row_step (λ ss. stmts_names c.args.owner (stmts ss)) (stmt_names c.args.owner) (λ x xs. refl) c.args.all.now c.loop-stmt.stmt-index c.stmt-item.result c.loop-stmt.least c.note_stmt_names.new.least _ c.loop-stmt-test.true c.stmt-item.is c.note_stmt_names.ensures c.loop-stmt.invariant

pub note_branches_names-loop-branch-preserved : goal.note_branches_names-loop-branch-preserved
note_branches_names-loop-branch-preserved t c =
    let m = c.args.owner in
    row_step (λ bs. branches_names m (branch_row bs)) (λ b. expr_names m b.0 ++ stmt_names m b.1)
    (λ x xs. sym (append_assoc (expr_names m x.0) (stmt_names m x.1) (branches_names m (branch_row xs))))
    c.args.branches.now c.loop-branch.branch-index c.branch-item.result c.loop-branch.least c.note_stmt_names.new.least _ c.loop-branch-test.true c.branch-item.is
    (c.note_stmt_names.ensures ∙ ap (λ z. checked z (stmt_names m c.branch-item.result.1)) c.note_expr_names.ensures ∙ sym (checked_more c.loop-branch.least (expr_names m c.branch-item.result.0) (stmt_names m c.branch-item.result.1)))
    c.loop-branch.invariant

pub note_cases_names-loop-case-preserved : goal.note_cases_names-loop-case-preserved
note_cases_names-loop-case-preserved t c =
    let m = c.args.owner in
    let case = c.case-item.result in
    row_step (λ cs. cases_names m (case_row cs)) (λ x. exprs_names m (exprs x.0.items) ++ stmt_names m x.1)
    (λ x xs. sym (append_assoc (exprs_names m (exprs x.0.items)) (stmt_names m x.1) (cases_names m (case_row xs))))
    c.args.cases.now c.loop-case.case-index case c.loop-case.least c.note_stmt_names.new.least _ c.loop-case-test.true c.case-item.is
    (c.note_stmt_names.ensures ∙ ap (λ z. checked z (stmt_names m case.1)) (c.note_exprs_names.ensures ∙ ap (λ v. checked c.loop-case.least (exprs_names m (exprs v))) c.deref.ensures.value) ∙ sym (checked_more c.loop-case.least (exprs_names m (exprs case.0.items)) (stmt_names m case.1)))
    c.loop-case.invariant
