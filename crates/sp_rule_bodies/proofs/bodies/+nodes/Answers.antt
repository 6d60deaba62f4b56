use Rattle.std.proofs.Common.{arith}
use Rattle.sp_rule_bodies.proofs.Falls.{stmt_falls, branch_falls, case_falls}
use Rattle.sp_rule_bodies.proofs.BodySteps.{stmt_nodes_step, branch_nodes_step, case_nodes_step}
use Rattle.sp_rule_bodies.proofs.bodies.+nodes.Goals as goal

pub note_all_nodes-note_nodes-requires : goal.note_all_nodes-note_nodes-requires
note_all_nodes-note_nodes-requires g t c κs h =
    let small = stmt_falls c.args.all.now c.loop-stmt.stmt-index c.stmt-item.result (omega arith) c.stmt-item.is in
    (omega arith, h)

pub note_branch_nodes-note_nodes-requires : goal.note_branch_nodes-note_nodes-requires
note_branch_nodes-note_nodes-requires g t c κs h =
    let small = branch_falls c.args.branches.now c.loop-branch.branch-index c.branch-item.result (omega arith) c.branch-item.is in
    (omega arith, h)

pub note_case_nodes-note_nodes-requires : goal.note_case_nodes-note_nodes-requires
note_case_nodes-note_nodes-requires g t c κs h =
    let small = case_falls c.args.cases.now c.loop-case.case-index c.case-item.result (omega arith) c.case-item.is in
    (omega arith, h)

pub note_all_nodes-loop-stmt-preserved : goal.note_all_nodes-loop-stmt-preserved
note_all_nodes-loop-stmt-preserved g t c =
    stmt_nodes_step (g.F.Facts.known c.args.facts.now) c.args.owner c.args.all.now c.loop-stmt.stmt-index c.stmt-item.result c.loop-stmt.least c.note_nodes.new.least _ c.loop-stmt-test.true c.stmt-item.is c.in_ok-note_nodes.ensures c.loop-stmt.invariant

pub note_branch_nodes-loop-branch-preserved : goal.note_branch_nodes-loop-branch-preserved
note_branch_nodes-loop-branch-preserved g t c =
    branch_nodes_step (g.F.Facts.known c.args.facts.now) c.args.owner c.args.branches.now c.loop-branch.branch-index c.branch-item.result c.loop-branch.least c.note_expr.new.least c.note_nodes.new.least _ c.loop-branch-test.true c.branch-item.is c.in_ok-note_expr.ensures c.in_ok-note_nodes.ensures c.loop-branch.invariant

pub note_case_nodes-loop-case-preserved : goal.note_case_nodes-loop-case-preserved
note_case_nodes-loop-case-preserved g t c =
    case_nodes_step (g.F.Facts.known c.args.facts.now) c.args.owner c.args.cases.now c.loop-case.case-index c.case-item.result c.deref.result.now c.loop-case.least c.note_exprs.new.least c.note_nodes.new.least _ c.loop-case-test.true c.case-item.is c.deref.ensures.value c.in_ok-note_exprs.ensures c.in_ok-note_nodes.ensures c.loop-case.invariant
