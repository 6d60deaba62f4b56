use Rattle.std.proofs.Common.{◌≡◌, ◌+◌, ◌*◌, drop}
use Rattle.sp_typed.specs.Stmts.{stmts, branch_row, case_row}
use Rattle.sp_typed.specs.inside.StmtCodes.{stmt_size, stmts_size, branches_size, cases_size}
use Rattle.sp_rule_bodies.proofs.Lasts.{told}
use Rattle.sp_rule_bodies.specs.Ends.{last_ends_well, branches_end_well, cases_end_well}
use Rattle.sp_rule_bodies.proofs.ends.+ends.Given as goal

abbrev pub decreases-ends_well : goal.decreases-ends_well
decreases-ends_well l = 2 * stmt_size l.body.now + 1

abbrev pub decreases-last_ends_well : goal.decreases-last_ends_well
decreases-last_ends_well l = 2 * stmts_size (stmts l.all.now)

abbrev pub decreases-branches_end_well : goal.decreases-branches_end_well
decreases-branches_end_well l = 2 * branches_size (branch_row l.branches.now)

abbrev pub decreases-cases_end_well : goal.decreases-cases_end_well
decreases-cases_end_well l = 2 * cases_size (case_row l.cases.now)

abbrev pub invariant-last_ends_well-loop-stmt : goal.invariant-last_ends_well-loop-stmt
invariant-last_ends_well-loop-stmt l = told l.last (stmts (drop l.stmt-index l.all)) ≡ last_ends_well (stmts l.all)

abbrev pub invariant-branches_end_well-loop-branch : goal.invariant-branches_end_well-loop-branch
invariant-branches_end_well-loop-branch l = branches_end_well (branch_row (drop l.branch-index l.branches)) ≡ branches_end_well (branch_row l.branches)

abbrev pub invariant-cases_end_well-loop-case : goal.invariant-cases_end_well-loop-case
invariant-cases_end_well-loop-case l = cases_end_well (case_row (drop l.case-index l.cases)) ≡ cases_end_well (case_row l.cases)
