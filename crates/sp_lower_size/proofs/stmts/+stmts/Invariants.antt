use Rattle.std.proofs.Common.{◌≡◌, ◌+◌, ◌*◌, drop}
use Rattle.sp_typed.specs.Stmts.{stmts, branch_row, case_row}
use Rattle.sp_typed.specs.inside.StmtCodes as inside
use Rattle.sp_code_programs.specs.units.Sizes.{stmts_size, branches_size, cases_size}
use Rattle.sp_lower_expr.specs.Around.{layout_in}
use Rattle.sp_lower_size.proofs.stmts.+stmts.Given as goal

abbrev pub decreases-stmt_size : goal.decreases-stmt_size
decreases-stmt_size l = 2 * inside.stmt_size l.stmt.now + 1

abbrev pub decreases-stmts_size : goal.decreases-stmts_size
decreases-stmts_size l = 2 * inside.stmts_size (stmts l.all.now)

abbrev pub invariant-stmts_size-loop-stmt : goal.invariant-stmts_size-loop-stmt
invariant-stmts_size-loop-stmt l = l.total + stmts_size (layout_in l.around) (stmts (drop l.stmt-index l.all)) ≡ stmts_size (layout_in l.around) (stmts l.all)

abbrev pub decreases-branches_size : goal.decreases-branches_size
decreases-branches_size l = 2 * inside.branches_size (branch_row l.branches.now)

abbrev pub invariant-branches_size-loop-branch : goal.invariant-branches_size-loop-branch
invariant-branches_size-loop-branch l = l.total + branches_size (layout_in l.around) (branch_row (drop l.branch-index l.branches)) ≡ branches_size (layout_in l.around) (branch_row l.branches)

abbrev pub decreases-cases_size : goal.decreases-cases_size
decreases-cases_size l = 2 * inside.cases_size (case_row l.cases.now)

abbrev pub invariant-cases_size-loop-case : goal.invariant-cases_size-loop-case
invariant-cases_size-loop-case l = l.total + cases_size (layout_in l.around) (case_row (drop l.case-index l.cases)) ≡ cases_size (layout_in l.around) (case_row l.cases)
