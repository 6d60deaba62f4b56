use Rattle.std.proofs.Common.{arith}
use Rattle.sp_rule_lists.proofs.SlotSteps.{stmt_step, branch_step, case_step}
use Rattle.sp_rule_lists.proofs.Falls.{stmt_falls, branch_falls, case_falls}
use Rattle.sp_rule_lists.proofs.slots.+slots.Goals as goal

pub gather_all-gather-requires : goal.gather_all-gather-requires
gather_all-gather-requires t c =
    let small = stmt_falls c.args.all.now c.loop-stmt.stmt-index c.stmt-item.result (omega arith) c.stmt-item.is in
    (omega arith, tt)

pub gather_branches-gather-requires : goal.gather_branches-gather-requires
gather_branches-gather-requires t c =
    let small = branch_falls c.args.branches.now c.loop-branch.branch-index c.branch-item.result (omega arith) c.branch-item.is in
    (omega arith, tt)

pub gather_cases-gather-requires : goal.gather_cases-gather-requires
gather_cases-gather-requires t c =
    let small = case_falls c.args.cases.now c.loop-case.case-index c.case-item.result (omega arith) c.case-item.is in
    (omega arith, tt)

pub gather_all-loop-stmt-preserved : goal.gather_all-loop-stmt-preserved
gather_all-loop-stmt-preserved t c =
    stmt_step c.args.all.now c.loop-stmt.stmt-index c.stmt-item.result c.loop-stmt.slots.items c.gather.new.slots.items _ c.loop-stmt-test.true c.stmt-item.is c.in_ok-gather.ensures c.loop-stmt.invariant

pub gather_branches-loop-branch-preserved : goal.gather_branches-loop-branch-preserved
gather_branches-loop-branch-preserved t c =
    branch_step c.args.branches.now c.loop-branch.branch-index c.branch-item.result c.loop-branch.slots.items c.gather.new.slots.items _ c.loop-branch-test.true c.branch-item.is c.in_ok-gather.ensures c.loop-branch.invariant

pub gather_cases-loop-case-preserved : goal.gather_cases-loop-case-preserved
gather_cases-loop-case-preserved t c =
    case_step c.args.cases.now c.loop-case.case-index c.case-item.result c.loop-case.slots.items c.gather.new.slots.items _ c.loop-case-test.true c.case-item.is c.in_ok-gather.ensures c.loop-case.invariant
