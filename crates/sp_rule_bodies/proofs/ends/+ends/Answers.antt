use Rattle.std.proofs.Common.{◌≡◌, true, arith}
use Rattle.sp_rule_bodies.specs.Ends.{ends_well}
use Rattle.sp_rule_bodies.proofs.Lasts.{last_step, branch_step, case_step}
use Rattle.sp_rule_bodies.proofs.Falls.{stmt_falls, branch_falls, case_falls}
use Rattle.sp_rule_bodies.proofs.ends.+ends.Goals as goal

pub last_ends_well-ends_well-last-requires : goal.last_ends_well-ends_well-last-requires
last_ends_well-ends_well-last-requires t c =
    let small = stmt_falls c.args.all.now c.loop-stmt.stmt-index c.stmt-item.result (omega arith) c.stmt-item.is in
    (omega arith, tt)

pub branches_end_well-ends_well-requires : goal.branches_end_well-ends_well-requires
branches_end_well-ends_well-requires t c =
    let small = branch_falls c.args.branches.now c.loop-branch.branch-index c.branch-item.result (omega arith) c.branch-item.is in
    (omega arith, tt)

pub cases_end_well-ends_well-requires : goal.cases_end_well-ends_well-requires
cases_end_well-ends_well-requires t c =
    let small = case_falls c.args.cases.now c.loop-case.case-index c.case-item.result (omega arith) c.case-item.is in
    (omega arith, tt)

pub last_ends_well-loop-stmt-preserved : goal.last_ends_well-loop-stmt-preserved
last_ends_well-loop-stmt-preserved t c =
    last_step c.args.all.now c.loop-stmt.stmt-index c.stmt-item.result c.loop-stmt.last c.ends_well-last.result _ c.loop-stmt-test.true c.stmt-item.is c.ends_well-last.ensures c.loop-stmt.invariant

pub branches_end_well-loop-branch-preserved : goal.branches_end_well-loop-branch-preserved
branches_end_well-loop-branch-preserved t c =
    let ends : ends_well c.branch-item.result.1 ≡ true = (let told = c.ends_well.ensures in let test = c.if-not-ends_well.false in cc) in
    branch_step c.args.branches.now c.loop-branch.branch-index c.branch-item.result _ c.loop-branch-test.true c.branch-item.is ends c.loop-branch.invariant

pub cases_end_well-loop-case-preserved : goal.cases_end_well-loop-case-preserved
cases_end_well-loop-case-preserved t c =
    let ends : ends_well c.case-item.result.1 ≡ true = (let told = c.ends_well.ensures in let test = c.if-not-ends_well.false in cc) in
    case_step c.args.cases.now c.loop-case.case-index c.case-item.result _ c.loop-case-test.true c.case-item.is ends c.loop-case.invariant
