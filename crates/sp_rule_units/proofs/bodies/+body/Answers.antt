use Rattle.std.proofs.Common.{arith}
use Rattle.sp_rule_units.specs.Filters.{node_tests}
use Rattle.sp_rule_units.proofs.Falls.{stmt_falls, branch_falls, case_falls}
use Rattle.sp_rule_units.proofs.Steps.{stmts_step, branches_step, cases_step}
use Rattle.sp_rule_units.proofs.bodies.+body.Goals as goal

pub note_stmts-note_body-requires : goal.note_stmts-note_body-requires
note_stmts-note_body-requires t c =
    let small = stmt_falls c.args.all.now c.loop-stmt.stmt-index c.stmt-item.result (omega arith) c.stmt-item.is in
    (omega arith, tt)

pub note_branches-note_body-requires : goal.note_branches-note_body-requires
note_branches-note_body-requires t c =
    let small = branch_falls c.args.branches.now c.loop-branch.branch-index c.branch-item.result (omega arith) c.branch-item.is in
    (omega arith, tt)

pub note_cases-note_body-requires : goal.note_cases-note_body-requires
note_cases-note_body-requires t c =
    let small = case_falls c.args.cases.now c.loop-case.case-index c.case-item.result (omega arith) c.case-item.is in
    (omega arith, tt)

pub note_stmts-loop-stmt-preserved : goal.note_stmts-loop-stmt-preserved
note_stmts-loop-stmt-preserved t c =
    stmts_step (node_tests c.args.units.now c.args.here) c.args.all.now c.loop-stmt.stmt-index c.stmt-item.result c.loop-stmt.least c.note_body.new.least _ c.loop-stmt-test.true c.stmt-item.is c.note_body.ensures c.loop-stmt.invariant

pub note_branches-loop-branch-preserved : goal.note_branches-loop-branch-preserved
note_branches-loop-branch-preserved t c =
    branches_step (node_tests c.args.units.now c.args.here) c.args.branches.now c.loop-branch.branch-index c.branch-item.result c.loop-branch.least c.note_expr.new.least c.note_body.new.least _ c.loop-branch-test.true c.branch-item.is c.note_expr.ensures c.note_body.ensures c.loop-branch.invariant

pub note_cases-loop-case-preserved : goal.note_cases-loop-case-preserved
note_cases-loop-case-preserved t c =
    cases_step (node_tests c.args.units.now c.args.here) c.args.cases.now c.loop-case.case-index c.case-item.result c.deref.result.now c.loop-case.least c.note_exprs.new.least c.note_body.new.least _ c.loop-case-test.true c.case-item.is c.deref.ensures.value c.note_exprs.ensures c.note_body.ensures c.loop-case.invariant
