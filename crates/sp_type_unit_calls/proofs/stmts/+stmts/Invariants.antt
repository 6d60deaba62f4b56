use Rattle.std.proofs.Common.{◌≡◌, ◌+◌, ◌*◌, drop}
use Rattle.sp_typed.specs.Stmts.{stmts, branch_row, case_row}
use Rattle.sp_typed.specs.inside.StmtCodes.{stmt_size, stmts_size, branches_size, cases_size}
use Rattle.sp_type_unit_calls.specs.StmtCalls.{stmts_call, branches_call, cases_call}
use Rattle.sp_type_unit_calls.proofs.stmts.+stmts.Given as goal

abbrev pub decreases-stmt_calls : goal.decreases-stmt_calls
decreases-stmt_calls l = 2 * stmt_size l.s.now + 1

abbrev pub decreases-stmts_call : goal.decreases-stmts_call
decreases-stmts_call l = 2 * stmts_size (stmts l.all.now)

abbrev pub invariant-stmts_call-loop-stmt : goal.invariant-stmts_call-loop-stmt
invariant-stmts_call-loop-stmt l = stmts_call l.method (stmts (drop l.stmt-index l.all)) ≡ stmts_call l.method (stmts l.all)

abbrev pub decreases-branches_call : goal.decreases-branches_call
decreases-branches_call l = 2 * branches_size (branch_row l.branches.now)

abbrev pub invariant-branches_call-loop-branch : goal.invariant-branches_call-loop-branch
invariant-branches_call-loop-branch l = branches_call l.method (branch_row (drop l.branch-index l.branches)) ≡ branches_call l.method (branch_row l.branches)

abbrev pub decreases-cases_call : goal.decreases-cases_call
decreases-cases_call l = 2 * cases_size (case_row l.cases.now)

abbrev pub invariant-cases_call-loop-case : goal.invariant-cases_call-loop-case
invariant-cases_call-loop-case l = cases_call l.method (case_row (drop l.case-index l.cases)) ≡ cases_call l.method (case_row l.cases)
