use Rattle.std.proofs.Common.{arith}
use Rattle.sp_type_unit_calls.proofs.Falls.{stmt_falls, branch_falls, case_falls}
use Rattle.sp_type_unit_calls.proofs.stmts.+stmts.Goals as goal

pub stmts_call-stmt_calls-requires : goal.stmts_call-stmt_calls-requires
stmts_call-stmt_calls-requires t c =
    let small = stmt_falls c.args.all.now c.loop-stmt.stmt-index c.stmt-item.result (omega arith) c.stmt-item.is in
    (omega arith, tt)

pub branches_call-stmt_calls-requires : goal.branches_call-stmt_calls-requires
branches_call-stmt_calls-requires t c =
    let small = branch_falls c.args.branches.now c.loop-branch.branch-index c.branch-item.result (omega arith) c.branch-item.is in
    (omega arith, tt)

pub cases_call-stmt_calls-requires : goal.cases_call-stmt_calls-requires
cases_call-stmt_calls-requires t c =
    let small = case_falls c.args.cases.now c.loop-case.case-index c.case-item.result (omega arith) c.case-item.is in
    (omega arith, tt)
