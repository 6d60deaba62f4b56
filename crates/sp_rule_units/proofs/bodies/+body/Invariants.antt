use Rattle.std.proofs.Common.{◌≡◌, ◌+◌, ◌*◌, drop}
use Rattle.sp_rules.specs.Least.{checked}
use Rattle.sp_typed.specs.Stmts.{stmts, branch_row, case_row}
use Rattle.sp_typed.specs.inside.StmtCodes.{stmt_size, stmts_size, branches_size, cases_size}
use Rattle.sp_typed.specs.StmtNodes.{stmts_nodes, branches_nodes, cases_nodes}
use Rattle.sp_rule_units.specs.Faults.{each}
use Rattle.sp_rule_units.specs.Filters.{node_tests}
use Rattle.sp_rule_units.proofs.bodies.+body.Given as goal

abbrev pub decreases-note_body : goal.decreases-note_body
decreases-note_body l = 2 * stmt_size l.s.now + 1

abbrev pub decreases-note_stmts : goal.decreases-note_stmts
decreases-note_stmts l = 2 * stmts_size (stmts l.all.now)

abbrev pub invariant-note_stmts-loop-stmt : goal.invariant-note_stmts-loop-stmt
invariant-note_stmts-loop-stmt l =
    checked l.least (each (node_tests l.units l.here) (stmts_nodes (stmts (drop l.stmt-index l.all)))) ≡ checked l.fn.least (each (node_tests l.units l.here) (stmts_nodes (stmts l.all)))

abbrev pub decreases-note_branches : goal.decreases-note_branches
decreases-note_branches l = 2 * branches_size (branch_row l.branches.now)

abbrev pub invariant-note_branches-loop-branch : goal.invariant-note_branches-loop-branch
invariant-note_branches-loop-branch l =
    checked l.least (each (node_tests l.units l.here) (branches_nodes (branch_row (drop l.branch-index l.branches)))) ≡ checked l.fn.least (each (node_tests l.units l.here) (branches_nodes (branch_row l.branches)))

abbrev pub decreases-note_cases : goal.decreases-note_cases
decreases-note_cases l = 2 * cases_size (case_row l.cases.now)

abbrev pub invariant-note_cases-loop-case : goal.invariant-note_cases-loop-case
invariant-note_cases-loop-case l =
    checked l.least (each (node_tests l.units l.here) (cases_nodes (case_row (drop l.case-index l.cases)))) ≡ checked l.fn.least (each (node_tests l.units l.here) (cases_nodes (case_row l.cases)))
