use Rattle.std.proofs.Common.{arith}
use Rattle.sp_rule_bodies.proofs.Falls.{stmt_falls, branch_falls, case_falls}
use Rattle.sp_rule_bodies.proofs.Swept.{stmts_step}
use Rattle.sp_rule_bodies.proofs.BodySteps.{branches_step, cases_step}
use Rattle.sp_rule_bodies.proofs.bodies.+inside.Goals as goal

pub note_all-note_inside-requires : goal.note_all-note_inside-requires
note_all-note_inside-requires g t c κs h =
    let small = stmt_falls c.args.all.now c.loop-stmt.stmt-index c.stmt-item.result (omega arith) c.stmt-item.is in
    (omega arith, h)

pub note_in_branches-note_inside-requires : goal.note_in_branches-note_inside-requires
note_in_branches-note_inside-requires g t c κs h =
    let small = branch_falls c.args.branches.now c.loop-branch.branch-index c.branch-item.result (omega arith) c.branch-item.is in
    (omega arith, h)

pub note_in_cases-note_inside-requires : goal.note_in_cases-note_inside-requires
note_in_cases-note_inside-requires g t c κs h =
    let small = case_falls c.args.cases.now c.loop-case.case-index c.case-item.result (omega arith) c.case-item.is in
    (omega arith, h)

pub note_all-loop-stmt-preserved : goal.note_all-loop-stmt-preserved
note_all-loop-stmt-preserved g t c =
    stmts_step (g.F.Facts.known c.args.facts.now) c.args.wanted.now c.args.owner c.args.all.now c.loop-stmt.stmt-index c.stmt-item.result c.loop-stmt.least c.note_inside.new.least _ c.loop-stmt-test.true c.stmt-item.is c.in_ok-note_inside.ensures c.loop-stmt.invariant

pub note_in_branches-loop-branch-preserved : goal.note_in_branches-loop-branch-preserved
note_in_branches-loop-branch-preserved g t c =
    branches_step (g.F.Facts.known c.args.facts.now) c.args.wanted.now c.args.owner c.args.branches.now c.loop-branch.branch-index c.branch-item.result c.loop-branch.least c.note_inside.new.least _ c.loop-branch-test.true c.branch-item.is c.in_ok-note_inside.ensures c.loop-branch.invariant

pub note_in_cases-loop-case-preserved : goal.note_in_cases-loop-case-preserved
note_in_cases-loop-case-preserved g t c =
    cases_step (g.F.Facts.known c.args.facts.now) c.args.wanted.now c.args.owner c.args.cases.now c.loop-case.case-index c.case-item.result c.loop-case.least c.note_inside.new.least _ c.loop-case-test.true c.case-item.is c.in_ok-note_inside.ensures c.loop-case.invariant
