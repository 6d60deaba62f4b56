use Rattle.std.proofs.Common.{◌≡◌, ◌+◌, ◌*◌, drop}
use Rattle.sp_rules.specs.Least.{checked}
use Rattle.sp_typed.specs.Stmts.{stmts, branch_row, case_row}
use Rattle.sp_typed.specs.inside.StmtCodes.{stmt_size, stmts_size, branches_size, cases_size}
use Rattle.sp_rule_lists.specs.Names.{stmts_names, branches_names, cases_names}
use Rattle.sp_rule_lists.proofs.stmt_names.+stmts.Given as goal

abbrev pub decreases-note_stmt_names : goal.decreases-note_stmt_names
decreases-note_stmt_names l = 2 * stmt_size l.s.now + 1

abbrev pub decreases-note_stmts_names : goal.decreases-note_stmts_names
decreases-note_stmts_names l = 2 * stmts_size (stmts l.all.now)

abbrev pub invariant-note_stmts_names-loop-stmt : goal.invariant-note_stmts_names-loop-stmt
invariant-note_stmts_names-loop-stmt l = checked l.least (stmts_names l.owner (stmts (drop l.stmt-index l.all))) ≡ checked l.fn.least (stmts_names l.owner (stmts l.all))

abbrev pub decreases-note_branches_names : goal.decreases-note_branches_names
decreases-note_branches_names l = 2 * branches_size (branch_row l.branches.now)

abbrev pub invariant-note_branches_names-loop-branch : goal.invariant-note_branches_names-loop-branch
invariant-note_branches_names-loop-branch l = checked l.least (branches_names l.owner (branch_row (drop l.branch-index l.branches))) ≡ checked l.fn.least (branches_names l.owner (branch_row l.branches))

abbrev pub decreases-note_cases_names : goal.decreases-note_cases_names
decreases-note_cases_names l = 2 * cases_size (case_row l.cases.now)

abbrev pub invariant-note_cases_names-loop-case : goal.invariant-note_cases_names-loop-case
invariant-note_cases_names-loop-case l = checked l.least (cases_names l.owner (case_row (drop l.case-index l.cases))) ≡ checked l.fn.least (cases_names l.owner (case_row l.cases))
