use Rattle.std.proofs.Common.{◌≡◌, ◌+◌, ◌*◌, ◌++◌, drop}
use Rattle.sp_typed.specs.Stmts.{stmts, branch_row, case_row}
use Rattle.sp_typed.specs.inside.StmtCodes.{stmt_size, stmts_size, branches_size, cases_size}
use Rattle.sp_rule_lists.specs.Slots.{for_slots_all, for_slots_branches, for_slots_cases}
use Rattle.sp_rule_lists.proofs.slots.+slots.Given as goal

abbrev pub decreases-gather : goal.decreases-gather
decreases-gather l = 2 * stmt_size l.s.now + 1

abbrev pub decreases-gather_all : goal.decreases-gather_all
decreases-gather_all l = 2 * stmts_size (stmts l.all.now)

abbrev pub invariant-gather_all-loop-stmt : goal.invariant-gather_all-loop-stmt
invariant-gather_all-loop-stmt l = l.slots.items ++ for_slots_all (stmts (drop l.stmt-index l.all)) ≡ l.fn.slots.items ++ for_slots_all (stmts l.all)

abbrev pub decreases-gather_branches : goal.decreases-gather_branches
decreases-gather_branches l = 2 * branches_size (branch_row l.branches.now)

abbrev pub invariant-gather_branches-loop-branch : goal.invariant-gather_branches-loop-branch
invariant-gather_branches-loop-branch l = l.slots.items ++ for_slots_branches (branch_row (drop l.branch-index l.branches)) ≡ l.fn.slots.items ++ for_slots_branches (branch_row l.branches)

abbrev pub decreases-gather_cases : goal.decreases-gather_cases
decreases-gather_cases l = 2 * cases_size (case_row l.cases.now)

abbrev pub invariant-gather_cases-loop-case : goal.invariant-gather_cases-loop-case
invariant-gather_cases-loop-case l = l.slots.items ++ for_slots_cases (case_row (drop l.case-index l.cases)) ≡ l.fn.slots.items ++ for_slots_cases (case_row l.cases)
